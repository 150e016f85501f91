-- The point of a segment IJ that p and r name as 01's shared points are named, taken r times as far out: a pair of
-- whole numbers. And the points close to it: in a drawing k times as large again, one step from it towards I and
-- towards J, which are points of IJ too.
--
--      I ------ . W . ----- J
use Rattle.std.specs.Prelude.{◌≡◌, refl, [], ◌∷◌, ℤ, pos, ◌+ℤ◌, ◌-ℤ◌, ◌*ℤ◌, ◌≤ℤ◌}
use Rattle.whole.specs.Ring.{E, v, ◌:+◌, ◌:-◌, ◌:*◌, ring, ring1, by_ring}
use Rattle.whole.specs.Order.{Nonneg, Positive, nonneg_add, nonneg_mul, positive_nonneg, positive_mul, positive_pred}
use Rattle.whole.specs.Order.{le_sub, sub_le}
use Rattle.outline.specs.Drawing.{Point}
use Rattle.outline.specs.Spell.{I, At}
use Rattle.outline.specs.Placed.{On, on_of}
use Rattle.outline.specs.Parity.{pt, out}
use Rattle.outline.specs.Near.{near}

abbrev pub point : Point → Point → ℤ → ℤ → Point
point i j p r = pt (r *ℤ i.x +ℤ p *ℤ (j.x -ℤ i.x)) (r *ℤ i.y +ℤ p *ℤ (j.y -ℤ i.y))

module _ (i j : Point) (p r : ℤ) (r+ : Positive r) (p0 : Nonneg p) (p1 : p ≤ℤ r) where
  -- a point k r times as far out, m / (k r) of the way from I to J
  on_ij : (k m : ℤ) (z : Point) → Positive k → Nonneg m → m ≤ℤ (k *ℤ r) →
      z.x ≡ k *ℤ r *ℤ i.x +ℤ m *ℤ (j.x -ℤ i.x) → z.y ≡ k *ℤ r *ℤ i.y +ℤ m *ℤ (j.y -ℤ i.y) →
      On z (out (k *ℤ r) i) (out (k *ℤ r) j)
  on_ij k m z k+ m0 m1 ex ey =
      on_of (record {
        m = m;
        k = k *ℤ r;
        k+ = positive_mul k+ r+;
        m0 = m0;
        m1 = m1;
        fx = axis (k *ℤ r) z.x i.x j.x ex;
        fy = axis (k *ℤ r) z.y i.y j.y ey;
      })
    where
      axis : (n z i j : ℤ) → z ≡ n *ℤ i +ℤ m *ℤ (j -ℤ i) → n *ℤ (z -ℤ n *ℤ i) ≡ m *ℤ (n *ℤ j -ℤ n *ℤ i)
      axis n z i j e =
          ring1 (z ∷ n ∷ m ∷ i ∷ j ∷ []) (v 1 :* (v 0 :- v 1 :* v 3)) (v 2 :* (v 1 :* v 4 :- v 1 :* v 3)) (v 1) (v 0)
          (At (v 1) (v 3) (v 2) (v 4)) e refl

  -- k p r are 0 to 2, and the ends on one axis 3 and 4
  abbrev point_e : E
  point_e = At (v 2) (v 3) (v 1) (v 4)

  pub beside_i : (k : ℤ) → Positive k → On (near (point i j p r) k (out r i)) (out (k *ℤ r) i) (out (k *ℤ r) j)
  beside_i k k+ =
      on_ij k ((k -ℤ pos 1) *ℤ p) (near (point i j p r) k (out r i)) k+ (nonneg_mul (positive_pred k+) p0)
      (sub_le (by_ring (k ∷ p ∷ r ∷ []) Nonneg (v 0 :* (v 2 :- v 1) :+ v 1) (v 0 :* v 2 :- (v 0 :- I) :* v 1) refl
      (nonneg_add (nonneg_mul (positive_nonneg k+) (le_sub p1)) p0)))
      (axis i.x j.x) (axis i.y j.y)
    where
      axis : (e f : ℤ) → k *ℤ (r *ℤ e +ℤ p *ℤ (f -ℤ e)) +ℤ (r *ℤ e -ℤ (r *ℤ e +ℤ p *ℤ (f -ℤ e)))
          ≡ k *ℤ r *ℤ e +ℤ (k -ℤ pos 1) *ℤ p *ℤ (f -ℤ e)
      axis e f =
          ring (k ∷ p ∷ r ∷ e ∷ f ∷ []) (v 0 :* point_e :+ (v 2 :* v 3 :- point_e))
          (At (v 0 :* v 2) (v 3) ((v 0 :- I) :* v 1) (v 4)) refl

  pub beside_j : (k : ℤ) → Positive k → On (near (point i j p r) k (out r j)) (out (k *ℤ r) i) (out (k *ℤ r) j)
  beside_j k k+ =
      on_ij k ((k -ℤ pos 1) *ℤ p +ℤ r) (near (point i j p r) k (out r j)) k+
      (nonneg_add (nonneg_mul (positive_pred k+) p0) (positive_nonneg r+))
      (sub_le (by_ring (k ∷ p ∷ r ∷ []) Nonneg ((v 0 :- I) :* (v 2 :- v 1))
      (v 0 :* v 2 :- ((v 0 :- I) :* v 1 :+ v 2)) refl (nonneg_mul (positive_pred k+) (le_sub p1))))
      (axis i.x j.x) (axis i.y j.y)
    where
      axis : (e f : ℤ) → k *ℤ (r *ℤ e +ℤ p *ℤ (f -ℤ e)) +ℤ (r *ℤ f -ℤ (r *ℤ e +ℤ p *ℤ (f -ℤ e)))
          ≡ k *ℤ r *ℤ e +ℤ ((k -ℤ pos 1) *ℤ p +ℤ r) *ℤ (f -ℤ e)
      axis e f =
          ring (k ∷ p ∷ r ∷ e ∷ f ∷ []) (v 0 :* point_e :+ (v 2 :* v 4 :- point_e))
          (At (v 0 :* v 2) (v 3) ((v 0 :- I) :* v 1 :+ v 2) (v 4)) refl
