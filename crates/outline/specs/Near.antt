-- Close to a point W that is not on a side. In a drawing K times as large stand the points one step from W towards I
-- and J, that is 1/K of the way there. From some K on, the segment between them does not meet the side.
--
--      I ------------- . W . ------------- J
use Rattle.std.specs.Prelude.{◌≡◌, refl, List, [], ◌∷◌, ℤ, pos, neg_ℤ, ◌+ℤ◌, ◌-ℤ◌, ◌*ℤ◌, ◌≤ℤ◌}
use Rattle.std.proofs.Common.{sym, subst}
use Rattle.std.specs.Int.Signed.{<ℤ-≤ℤ_trans}
use Rattle.whole.specs.Ring.{E, v, ◌:+◌, ◌:-◌, ◌:*◌, neg, ring, by_ring}
use Rattle.whole.specs.Order.{Nonneg, Positive, nonneg_pos, nonneg_add, nonneg_mul, positive_nonneg, positive_mul}
use Rattle.whole.specs.Order.{positive_pred, pred_positive, square_nonneg, le_sub, Sign, plus, nought, minus, sign}
use Rattle.outline.specs.Drawing.{Point, Shared}
use Rattle.outline.specs.Spell.{PointE, A, B, C, I, OutE}
use Rattle.outline.specs.Placed.{On}
use Rattle.outline.specs.Along.{len2}
use Rattle.outline.specs.Parity.{pt, out}
use Rattle.outline.specs.LineBetween.{off_line, off_line_e, LineBetween, kept_apart, line_between}

-- one step from W towards Z, in a drawing K times as large
abbrev pub near : Point → ℤ → Point → Point
near W K Z = pt (K *ℤ W.x +ℤ (Z.x -ℤ W.x)) (K *ℤ W.y +ℤ (Z.y -ℤ W.y))

abbrev pub NearE : PointE → E → PointE → PointE
NearE w k z = record { x = k :* w.x :+ (z.x :- w.x); y = k :* w.y :+ (z.y :- w.y) }

-- ---- how large: for g >= 1, K g + s is above zero from K = s s + t t + 1 on, because s s + s is not negative
reach : ℤ → ℤ → ℤ
reach s t = s *ℤ s +ℤ t *ℤ t +ℤ pos 1

one_more : {x : ℤ} → Nonneg x → Positive (x +ℤ pos 1)
one_more {x} h = pred_positive (by_ring (x ∷ []) Nonneg (v 0) (v 0 :+ I :- I) refl h)

reach_above : (s t : ℤ) → Positive (reach s t)
unfolding reach
reach_above s t = one_more (nonneg_add (square_nonneg s) (square_nonneg t))

reach_swap : (s t : ℤ) → reach s t ≡ reach t s
unfolding reach
reach_swap s t = ring (s ∷ t ∷ []) (v 0 :* v 0 :+ v 1 :* v 1 :+ I) (v 1 :* v 1 :+ v 0 :* v 0 :+ I) refl

square_over : (s : ℤ) → Nonneg (s *ℤ s +ℤ s)
square_over s = go (sign s)
  where
    go : Sign s → Nonneg (s *ℤ s +ℤ s)
    go (plus h) = nonneg_add (positive_nonneg (positive_mul h h)) (positive_nonneg h)
    go (nought e) = subst (λ t. Nonneg (t *ℤ t +ℤ t)) (sym e) (nonneg_pos 0)
    go (minus h) =
        by_ring (s ∷ []) Nonneg (neg (v 0) :* (neg (v 0) :- I)) (v 0 :* v 0 :+ v 0) refl
        (nonneg_mul (positive_nonneg h) (positive_pred h))

-- K g s t are 0 to 3
reaches : (K g s t : ℤ) → Positive g → reach s t ≤ℤ K → Positive (K *ℤ g +ℤ s)
unfolding reach
reaches K g s t h k =
    by_ring (K ∷ g ∷ s ∷ t ∷ []) Positive
    (v 0 :* (v 1 :- I) :+ (v 0 :- (v 2 :* v 2 :+ v 3 :* v 3 :+ I)) :+ (v 2 :* v 2 :+ v 2 :+ v 3 :* v 3) :+ I)
    (v 0 :* v 1 :+ v 2) refl
    (one_more (nonneg_add
    (nonneg_add (nonneg_mul (positive_nonneg (<ℤ-≤ℤ_trans (reach_above s t) k)) (positive_pred h)) (le_sub k))
    (nonneg_add (square_over s) (square_nonneg t))))

-- ---- a side that does not hold W
pub record Off (I J W a b : Point) : Type 0 where
  pub M : ℤ
  pub M+ : Positive M
  pub far : (K : ℤ) → M ≤ℤ K → ¬ Shared (near W K I) (near W K J) (out K a) (out K b)

-- the line between, K times as far out. Its point e, W and z are A, B and C, its normal is 6 and 7, and K is 8
abbrev off_e : PointE → PointE → E
off_e e z = off_line_e (v 6) (v 7) e z

module _ (W : Point) {a b : Point} (l : LineBetween W a b) where
  abbrev off : Point → ℤ
  off z = off_line l.u l.w l.e z

  abbrev ρ : ℤ → Point → List ℤ
  ρ K z = l.e.x ∷ l.e.y ∷ W.x ∷ W.y ∷ z.x ∷ z.y ∷ l.u ∷ l.w ∷ K ∷ []

  step : (K : ℤ) (z : Point) →
      K *ℤ off W +ℤ (off z -ℤ off W) ≡ off_line l.u l.w (out K l.e) (near W K z)
  step K z = ring (ρ K z) (v 8 :* off_e A B :+ (off_e A C :- off_e A B)) (off_e (OutE (v 8) A) (NearE B (v 8) C)) refl

  behind : (K : ℤ) (z : Point) → Nonneg K → Nonneg (neg_ℤ (off z)) →
      Nonneg (neg_ℤ (off_line l.u l.w (out K l.e) (out K z)))
  behind K z k h =
      by_ring (ρ K z) Nonneg (v 8 :* neg (off_e A C)) (neg (off_e (OutE (v 8) A) (OutE (v 8) C))) refl (nonneg_mul k h)

  off_line_side : (I J : Point) → Off I J W a b
  off_line_side i j =
      record {
        M = reach (off i -ℤ off W) (off j -ℤ off W);
        M+ = reach_above (off i -ℤ off W) (off j -ℤ off W);
        far = far;
      }
    where
      far : (K : ℤ) → reach (off i -ℤ off W) (off j -ℤ off W) ≤ℤ K →
          ¬ Shared (near W K i) (near W K j) (out K a) (out K b)
      far K k =
          let s = off i -ℤ off W in
          let t = off j -ℤ off W in
          let k0 = positive_nonneg (<ℤ-≤ℤ_trans (reach_above s t) k) in
          kept_apart (near W K i) (near W K j) (out K a) (out K b) l.u l.w (out K l.e)
          (subst Positive (step K i) (reaches K (off W) s t l.ahead k))
          (subst Positive (step K j)
          (reaches K (off W) t s l.ahead (subst (λ m. m ≤ℤ K) (reach_swap s t) k)))
          (behind K a k0 l.a_behind) (behind K b k0 l.b_behind)

pub off_side : (I J W a b : Point) → Positive (len2 a b) → ¬ On W a b → Off I J W a b
off_side i j W a b n+ o = off_line_side W (line_between W a b n+ o) i j
