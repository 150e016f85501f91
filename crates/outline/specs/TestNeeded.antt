-- The finite test is needed, on a simple drawing: where a side crosses the segment, one of the points close to the
-- crossing is out; and the points half way between corners are points of the segment.
use Rattle.std.specs.Prelude.{◌≡◌, refl, ◌⊎◌, [], ◌∷◌, ℕ, suc, ◌<◌, ℤ, pos, ◌+ℤ◌, ◌-ℤ◌, ◌*ℤ◌}
use Rattle.std.proofs.Common.{sym, ap, ap₂, subst, inl, inr}
use Rattle.std.proofs.Math.Path.{fun_ext}
use Rattle.std.proofs.Math.Decide.{ℕ_discrete}
use Rattle.std.specs.Int.Signed.{<ℤ_irrefl}
use Rattle.whole.specs.Laws.{*ℤ_assoc}
use Rattle.whole.specs.Ring.{v, ◌:+◌, ◌:-◌, ◌:*◌, ring2, by_ring}
use Rattle.whole.specs.Order.{Nonneg, Positive, positive_pos, nonneg_add, positive_mul, positive_or, le_sub, sub_le}
use Rattle.outline.specs.Drawing.{Point, Shared, turn_of}
use Rattle.outline.specs.Spell.{Two}
use Rattle.outline.specs.Segments.{turned_first, turn_back, turn_start, turn_end}
use Rattle.outline.specs.Placed.{On, on_of, on_turn}
use Rattle.outline.specs.Along.{len2, along, along_low, along_high, on_x, on_y}
use Rattle.outline.specs.Parity.{pt, InOn, out, large}
use Rattle.outline.specs.Scale.{len_scale}
use Rattle.outline.specs.Crossing.{Opposite, Crosses}
use Rattle.outline.specs.CrossingPoint.{on_segment, on_side, runs_through, off_side, not_first, not_last}
use Rattle.outline.specs.SharedPoint.{point, beside_i, beside_j}
use Rattle.outline.specs.OneIsOut.{one_is_out}
use Rattle.outline.specs.EveryPoint.{Sight, Test, Simple, sum2}

module _ (c : ℕ → Point) (n : ℕ) (closed : c n ≡ c 0) (simple : Simple c n) where
  -- ---- side m crosses, its start right of the segment and its end left
  module _ (i j : ℕ) (i< : i < n) (j< : j < n) (sight : Sight c n (c i) (c j)) (m : ℕ) (m< : m < n)
      (right : Positive (turn_of (c j) (c i) (c m))) (left : Positive (turn_of (c i) (c j) (c (suc m))))
      (s : Shared (c i) (c j) (c m) (c (suc m))) where
    -- the crossing, r times as far out
    w : Point
    w = point (c i) (c j) s.p s.r

    -- not a corner: a side begins there, and it would hold an inner point of side m
    not_i : ¬ (s.p ≡ pos 0)
    not_i e = at (ℕ_discrete m i)
      where
        at : ¬ Dec (m ≡ i)
        at (yes f) =
            <ℤ_irrefl
            (subst Positive (turn_end (c j) (c i)) (subst (λ k. Positive (turn_of (c j) (c i) (c k))) f right))
        at (no f) = not_first (c i) (c j) (c m) (c (suc m)) right left s (c (suc i)) (simple.apart m i m< i< f) e

    not_j : ¬ (s.r -ℤ s.p ≡ pos 0)
    not_j e = at (ℕ_discrete m j)
      where
        at : ¬ Dec (m ≡ j)
        at (yes f) =
            <ℤ_irrefl
            (subst Positive (turn_start (c j) (c i)) (subst (λ k. Positive (turn_of (c j) (c i) (c k))) f right))
        at (no f) = not_last (c i) (c j) (c m) (c (suc m)) right left s (c (suc j)) (simple.apart m j m< j< f) e

    -- and no other side holds it
    off : (k : ℕ) → k < n → ¬ (k ≡ m) → ¬ On w (large s.r c k) (large s.r c (suc k))
    unfolding w
    off k k< e =
        off_side (c i) (c j) (c m) (c (suc m)) right left s (c k) (c (suc k))
        (simple.apart m k m< k< (λ g. e (sym g)))

    above : {t : ℤ} → Positive t ⊎ (t ≡ pos 0) → ¬ (t ≡ pos 0) → Positive t
    above (inl h) ne = h
    above (inr e) ne = absurd (ne e)

    grow : (k : ℤ) → large (k *ℤ s.r) c ≡ large k (large s.r c)
    grow k = fun_ext (λ m. ap₂ pt (*ℤ_assoc k s.r (c m).x) (*ℤ_assoc k s.r (c m).y))

    -- a point close to the crossing is seen
    seen : (k : ℤ) → Positive k → (z : Point) → On z (out (k *ℤ s.r) (c i)) (out (k *ℤ s.r) (c j)) →
        InOn (large k (large s.r c)) n z
    seen k k+ z o = subst (λ e. InOn e n z) (grow k) (sight z (k *ℤ s.r) (positive_mul k+ s.r_above) o)

    crossing_out : ⊥
    unfolding w
    crossing_out =
        let p+ = above (positive_or s.p_from) not_i in
        let p- = above (positive_or (le_sub s.p_to)) not_j in
        let u =
        one_is_out (large s.r c) n (ap (out s.r) closed) m m< (out s.r (c i)) (out s.r (c j)) w
        (on_segment (c i) (c j) (c m) (c (suc m)) right left s) (on_side (c i) (c j) (c m) (c (suc m)) right left s)
        (runs_through (c i) (c j) (c m) (c (suc m)) right left s p+ p-)
        (λ k k<. len_scale s.r (c k) (c (suc k)) s.r_above (simple.ends k k<)) off in
        u.not_both
        (seen u.k u.k+ _ (beside_i (c i) (c j) s.p s.r s.r_above s.p_from s.p_to u.k u.k+))
        (seen u.k u.k+ _ (beside_j (c i) (c j) s.p s.r s.r_above s.p_from s.p_to u.k u.k+))

  -- ---- no side crosses a seen segment
  clear_of : (i j : ℕ) → i < n → j < n → Sight c n (c i) (c j) → (m : ℕ) → m < n →
      ¬ Crosses (c i) (c j) (c m) (c (suc m))
  clear_of i j i< j< sight m m< x = go x.ends
    where
      back : Sight c n (c j) (c i)
      back z r r+ o = sight z r r+ (on_turn o)

      go : ¬ Opposite (turn_of (c i) (c j) (c m)) (turn_of (c i) (c j) (c (suc m)))
      go (inl h) =
          crossing_out j i j< i< back m m< h.0 (subst Positive (turn_back (c i) (c j) (c (suc m))) h.1)
          (turned_first x.meets)
      go (inr h) =
          crossing_out i j i< j< sight m m< (subst Positive (turn_back (c i) (c j) (c m)) h.0) h.1 x.meets

  -- ---- half way between two points of the segment is one. N k l i j s t are 0 to 6
  axis : (N k l i j s t : ℤ) → N *ℤ (k -ℤ i) ≡ s *ℤ (j -ℤ i) → N *ℤ (l -ℤ i) ≡ t *ℤ (j -ℤ i) →
      pos 2 *ℤ N *ℤ (k +ℤ l -ℤ pos 2 *ℤ i) ≡ (s +ℤ t) *ℤ (pos 2 *ℤ j -ℤ pos 2 *ℤ i)
  axis N k l i j s t e f =
      ring2 (N ∷ k ∷ l ∷ i ∷ j ∷ s ∷ t ∷ []) (Two :* v 0 :* (v 1 :+ v 2 :- Two :* v 3))
      ((v 5 :+ v 6) :* (Two :* v 4 :- Two :* v 3)) Two (v 0 :* (v 1 :- v 3)) (v 5 :* (v 4 :- v 3)) Two
      (v 0 :* (v 2 :- v 3)) (v 6 :* (v 4 :- v 3)) e f refl

  half_on : (a b p q : Point) → Positive (len2 a b) → On p a b → On q a b →
      On (sum2 p q) (out (pos 2) a) (out (pos 2) b)
  half_on a b p q n+ op oq =
      let s = along a b p in
      let t = along a b q in
      on_of (record {
        m = s +ℤ t;
        k = pos 2 *ℤ len2 a b;
        k+ = positive_mul {x = pos 2} (positive_pos 1) n+;
        m0 = nonneg_add (along_low p a b op) (along_low q a b oq);
        m1 =
            sub_le (by_ring (s ∷ t ∷ len2 a b ∷ []) Nonneg
            (v 2 :- v 0 :+ (v 2 :- v 1)) (Two :* v 2 :- (v 0 :+ v 1)) refl
            (nonneg_add (le_sub (along_high p a b op)) (le_sub (along_high q a b oq))));
        fx = axis (len2 a b) p.x q.x a.x b.x s t (on_x a b p op.line) (on_x a b q oq.line);
        fy = axis (len2 a b) p.y q.y a.y b.y s t (on_y a b p op.line) (on_y a b q oq.line);
      })

  pub sight_test : (i j : ℕ) → i < n → j < n → Positive (len2 (c i) (c j)) → Sight c n (c i) (c j) → Test c n i j
  sight_test i j i< j< n+ sight =
      record {
        clear = clear_of i j i< j< sight;
        mids = λ k l kb lb ok ol.
            sight (sum2 (c k) (c l)) (pos 2) (positive_pos 1) (half_on (c i) (c j) (c k) (c l) n+ ok ol);
      }
