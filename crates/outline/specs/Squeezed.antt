-- A point k of the segment ij, and a segment xy: what a part of ij shares with xy, ij shares; where both parts share a
-- point with xy, k is on xy.
--
--      i -------- k -------- j
use Rattle.std.specs.Prelude.{◌≡◌, refl, List, [], ◌∷◌, ℤ, neg_ℤ, ◌+ℤ◌, ◌-ℤ◌, ◌*ℤ◌}
use Rattle.std.proofs.Common.{sym, subst, inl, inr}
use Rattle.whole.specs.Ring.{v, ◌:+◌, ◌:-◌, ◌:*◌, neg, ring2, by_ring}
use Rattle.whole.specs.Order.{Nonneg, Positive, nonneg_pos, nonneg_add, nonneg_mul, positive_nonneg, positive_mul}
use Rattle.whole.specs.Order.{le_sub, sub_le, Sign, plus, nought, minus, sign}
use Rattle.outline.specs.Drawing.{Point, Shared}
use Rattle.outline.specs.Segments.{exchanged, turned_first}
use Rattle.outline.specs.Placed.{On, Frac, frac_of, on_turn, touch_meets}
use Rattle.outline.specs.Along.{len2}
use Rattle.outline.specs.Tells.{Decide, decided}
use Rattle.outline.specs.OnTest.{on_tells}
use Rattle.outline.specs.LineBetween.{off_line, kept_apart, LineBetween, line_between}

-- ---- k is on ij: what kj shares with xy, ij shares
pub part_shared : (i k j x y : Point) → On k i j → Shared k j x y → Shared i j x y
part_shared i k j x y o s = record {
  p = s.r *ℤ f.m +ℤ s.p *ℤ (f.k -ℤ f.m);
  q = s.q *ℤ f.k;
  r = s.r *ℤ f.k;
  r_above = positive_mul s.r_above f.k+;
  p_from = nonneg_add (nonneg_mul (positive_nonneg s.r_above) f.m0) (nonneg_mul s.p_from (le_sub f.m1));
  p_to =
      sub_le (by_ring ρ Nonneg ((v 2 :- v 0) :* (v 4 :- v 3)) (v 2 :* v 4 :- (v 2 :* v 3 :+ v 0 :* (v 4 :- v 3))) refl
      (nonneg_mul (le_sub s.p_to) (le_sub f.m1)));
  q_from = nonneg_mul s.q_from (positive_nonneg f.k+);
  q_to = sub_le (by_ring ρ Nonneg ((v 2 :- v 1) :* v 4) (v 2 :* v 4 :- v 1 :* v 4) refl
      (nonneg_mul (le_sub s.q_to) (positive_nonneg f.k+)));
  same_x = axis i.x k.x j.x x.x y.x f.fx s.same_x;
  same_y = axis i.y k.y j.y x.y y.y f.fy s.same_y;
}
  where
    f : Frac k i j
    f = frac_of k i j o

    ρ : List ℤ
    ρ = s.p ∷ s.q ∷ s.r ∷ f.m ∷ f.k ∷ []

    axis : (i k j x y : ℤ) → f.k *ℤ (k -ℤ i) ≡ f.m *ℤ (j -ℤ i) →
        s.r *ℤ k +ℤ s.p *ℤ (j -ℤ k) ≡ s.r *ℤ x +ℤ s.q *ℤ (y -ℤ x) →
        s.r *ℤ f.k *ℤ i +ℤ (s.r *ℤ f.m +ℤ s.p *ℤ (f.k -ℤ f.m)) *ℤ (j -ℤ i)
        ≡ s.r *ℤ f.k *ℤ x +ℤ s.q *ℤ f.k *ℤ (y -ℤ x)
    axis i k j x y e h =
        ring2 (s.p ∷ s.q ∷ s.r ∷ f.m ∷ f.k ∷ i ∷ k ∷ j ∷ x ∷ y ∷ [])
        (v 2 :* v 4 :* v 5 :+ (v 2 :* v 3 :+ v 0 :* (v 4 :- v 3)) :* (v 7 :- v 5))
        (v 2 :* v 4 :* v 8 :+ v 1 :* v 4 :* (v 9 :- v 8))
        (v 4) (v 2 :* v 6 :+ v 0 :* (v 7 :- v 6)) (v 2 :* v 8 :+ v 1 :* (v 9 :- v 8))
        (neg (v 2 :- v 0)) (v 4 :* (v 6 :- v 5)) (v 3 :* (v 7 :- v 5)) h e refl

pub first_shared : (i k j x y : Point) → On k i j → Shared i k x y → Shared i j x y
first_shared i k j x y o s = turned_first (part_shared j k i x y (on_turn o) (turned_first s))

-- ---- k is on ij, and both parts share a point with xy: then k is on xy
pub squeezed : (i k j x y : Point) → On k i j → Positive (len2 x y) → Shared i k x y → Shared k j x y → On k x y
squeezed i k j x y o len s t = go (decided (on_tells k x y))
  where
    low : (z : Point) (h : LineBetween k x y) → (Positive (off_line h.u h.w h.e z) → ⊥) →
        Nonneg (neg_ℤ (off_line h.u h.w h.e z))
    low z h n = at (sign (off_line h.u h.w h.e z))
      where
        at : Sign (off_line h.u h.w h.e z) → Nonneg (neg_ℤ (off_line h.u h.w h.e z))
        at (plus a) = absurd (n a)
        at (nought e) = subst (λ z. Nonneg (neg_ℤ z)) (sym e) (nonneg_pos 0)
        at (minus a) = positive_nonneg a

    between : LineBetween k x y → ⊥
    between h =
        kept_apart k k i j h.u h.w h.e h.ahead h.ahead
        (low i h (λ a. kept_apart i k x y h.u h.w h.e a h.ahead h.a_behind h.b_behind s))
        (low j h (λ a. kept_apart k j x y h.u h.w h.e h.ahead a h.a_behind h.b_behind t))
        (exchanged (touch_meets i j k k (inl (inl o))))

    go : Decide (On k x y) → On k x y
    go (inl q) = q
    go (inr n) = absurd (between (line_between k x y len n))
