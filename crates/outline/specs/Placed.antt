-- A pair of whole numbers on a segment with whole ends, in three forms that say the same.
--
--                   w    a part of the way:   k times the way from u to z is m times the way from u to w
--           z  .         by line and box:     z does not turn from uw, and both its coordinates lie between theirs
--      u .               by line and product: z does not turn from uw, and does not have both ends in one direction
--
-- `OnSegment (spot z) u w`, which 01's words give, is the first form with its two equations written differently.
use Rattle.std.specs.Prelude.{◌≡◌, refl, ◌⊎◌, List, [], ◌∷◌, ℤ, pos, neg_ℤ, ◌-ℤ◌, ◌*ℤ◌, ◌≤ℤ◌, ◌<ℤ◌}
use Rattle.std.proofs.Common.{sym, subst, inl, inr}
use Rattle.whole.specs.Ring.{E, v, ◌:+◌, ◌:-◌, ◌:*◌, neg, ring1, ring2, by_ring}
use Rattle.whole.specs.Order.{Nonneg, Positive, nonneg_pos, positive_pos, nonneg_add, nonneg_mul, nonneg_cancel}
use Rattle.whole.specs.Order.{zero_cancel, le_sub, sub_le, ≤ℤ_total, <ℤ_le}
use Rattle.outline.specs.Drawing.{Point, Shared, turn_of}
use Rattle.outline.specs.InOrOn.{OnSegment, spot}
use Rattle.outline.specs.Spell.{A, B, C, P, Q, O, I, env, env4, TurnE, DotE, At}
use Rattle.outline.specs.Segments.{exchanged, turned_second, Dot}
use Rattle.outline.specs.Quick.{on_line}
use Rattle.outline.specs.OnSegment as segment

-- ---- the forms
pub record Frac (z u w : Point) : Type 0 where
  pub m : ℤ
  pub k : ℤ
  pub k+ : Positive k
  pub m0 : Nonneg m
  pub m1 : m ≤ℤ k
  pub fx : k *ℤ (z.x -ℤ u.x) ≡ m *ℤ (w.x -ℤ u.x)
  pub fy : k *ℤ (z.y -ℤ u.y) ≡ m *ℤ (w.y -ℤ u.y)

-- x lies between u and w, whichever of them is the smaller
abbrev pub Btw : ℤ → ℤ → ℤ → Type 0
Btw u x w = ((u ≤ℤ x) × (x ≤ℤ w)) ⊎ ((w ≤ℤ x) × (x ≤ℤ u))

pub record On (z u w : Point) : Type 0 where
  pub line : turn_of u w z ≡ pos 0
  pub bx : Btw u.x z.x w.x
  pub by : Btw u.y z.y w.y

-- ---- from a part of the way to line and box. On one axis, with u x w m k spelled 0 to 4
btw : (u x w m k : ℤ) → Positive k → Nonneg m → m ≤ℤ k → k *ℤ (x -ℤ u) ≡ m *ℤ (w -ℤ u) → Btw u x w
btw u x w m k k+ m0 m1 e = go (≤ℤ_total u w)
  where
    ρ : List ℤ
    ρ = u ∷ x ∷ w ∷ m ∷ k ∷ []

    -- k (x - u) and m (w - u)
    kx : E
    kx = v 4 :* (v 1 :- v 0)

    mw : E
    mw = v 3 :* (v 2 :- v 0)

    go : (u ≤ℤ w) ⊎ (w <ℤ u) → Btw u x w
    go (inl h) = inl (
      sub_le (nonneg_cancel k+ (subst Nonneg (sym e) (nonneg_mul m0 (le_sub h)))),
      sub_le (nonneg_cancel k+
          (subst Nonneg (ring1 ρ ((v 4 :- v 3) :* (v 2 :- v 0)) (v 4 :* (v 2 :- v 1)) I kx mw e refl)
          (nonneg_mul (le_sub m1) (le_sub h)))),
    )
    go (inr h) = inr (
      sub_le (nonneg_cancel k+
          (subst Nonneg (ring1 ρ ((v 4 :- v 3) :* (v 0 :- v 2)) (v 4 :* (v 1 :- v 2)) (neg I) kx mw e refl)
          (nonneg_mul (le_sub m1) (le_sub (<ℤ_le h))))),
      sub_le (nonneg_cancel k+
          (subst Nonneg (ring1 ρ (v 3 :* (v 0 :- v 2)) (v 4 :* (v 0 :- v 1)) I kx mw e refl)
          (nonneg_mul m0 (le_sub (<ℤ_le h))))),
    )

-- u, w and z are A, B and C; m and k are P and Q
pub on_of : {z u w : Point} → Frac z u w → On z u w
on_of {z} {u} {w} f =
    record {
      line =
          zero_cancel f.k+
          (ring2 (env u w z z f.m f.k (pos 0)) (Q :* TurnE A B C) O
          (B.x :- A.x) (Q :* (C.y :- A.y)) (P :* (B.y :- A.y))
          (neg (B.y :- A.y)) (Q :* (C.x :- A.x)) (P :* (B.x :- A.x)) f.fy f.fx refl);
      bx = btw u.x z.x w.x f.m f.k f.k+ f.m0 f.m1 f.fx;
      by = btw u.y z.y w.y f.m f.k f.k+ f.m0 f.m1 f.fy;
    }

-- ---- from line and box to line and product
axis : (u x w : ℤ) → Btw u x w → Nonneg (neg_ℤ ((u -ℤ x) *ℤ (w -ℤ x)))
axis u x w (inl h) =
    by_ring (u ∷ x ∷ w ∷ []) Nonneg ((v 1 :- v 0) :* (v 2 :- v 1)) (neg ((v 0 :- v 1) :* (v 2 :- v 1))) refl
    (nonneg_mul (le_sub h.0) (le_sub h.1))
axis u x w (inr h) =
    by_ring (u ∷ x ∷ w ∷ []) Nonneg ((v 0 :- v 1) :* (v 1 :- v 2)) (neg ((v 0 :- v 1) :* (v 2 :- v 1))) refl
    (nonneg_mul (le_sub h.1) (le_sub h.0))

pub on_dot : {z u w : Point} → On z u w → Dot z u w ≤ℤ pos 0
on_dot {z} {u} {w} o =
    sub_le (by_ring (env4 u w z z) Nonneg
    (neg ((A.x :- C.x) :* (B.x :- C.x)) :+ neg ((A.y :- C.y) :* (B.y :- C.y))) (O :- DotE C A B) refl
    (nonneg_add (axis u.x z.x w.x o.bx) (axis u.y z.y w.y o.by)))

-- ---- from line and product, as `OnSegment` has it, to a part of the way
segment_frac : {z u w : Point} → OnSegment (spot z) u w → Frac z u w
segment_frac {z} {u} {w} o =
    let ρ = env u w z z o.p o.q (pos 0) in
    record {
      m = o.p;
      k = o.q;
      k+ = o.q_above;
      m0 = o.p_from;
      m1 = o.p_to;
      fx =
          ring1 ρ (Q :* (C.x :- A.x)) (P :* (B.x :- A.x)) (neg I) (I :* At Q A.x P B.x) (Q :* C.x)
          o.on_x refl;
      fy =
          ring1 ρ (Q :* (C.y :- A.y)) (P :* (B.y :- A.y)) (neg I) (I :* At Q A.y P B.y) (Q :* C.y)
          o.on_y refl;
    }

pub segment_on : (z u w : Point) → OnSegment (spot z) u w → On z u w
segment_on z u w o = on_of (segment_frac o)

pub on_segment : (z u w : Point) → On z u w → OnSegment (spot z) u w
on_segment z u w o = segment.on_of o.line (on_dot o)

pub frac_of : (z u w : Point) → On z u w → Frac z u w
frac_of z u w o = segment_frac (on_segment z u w o)

pub dot_on : {z u w : Point} → turn_of u w z ≡ pos 0 → Dot z u w ≤ℤ pos 0 → On z u w
dot_on {z} {u} {w} e h = segment_on z u w (segment.on_of e h)

-- ---- the segment turned round
btw_turn : {u x w : ℤ} → Btw u x w → Btw w x u
btw_turn (inl b) = inr b
btw_turn (inr b) = inl b

pub on_turn : {z u w : Point} → On z u w → On z w u
on_turn {z} {u} {w} o =
    record {
      line = ring1 (env4 u w z z) (TurnE B A C) O (neg I) (TurnE A B C) O o.line refl;
      bx = btw_turn o.bx;
      by = btw_turn o.by;
    }

-- ---- a segment's start is on it
pub on_start : (z a b : Point) → z.x ≡ a.x → z.y ≡ a.y → On z a b
on_start z a b ex ey =
    on_of (record {
      m = pos 0;
      k = pos 1;
      k+ = positive_pos 0;
      m0 = nonneg_pos 0;
      m1 = nonneg_pos 1;
      fx = ring1 (env4 a b z z) (I :* (C.x :- A.x)) (O :* (B.x :- A.x)) I C.x A.x ex refl;
      fy = ring1 (env4 a b z z) (I :* (C.y :- A.y)) (O :* (B.y :- A.y)) I C.y A.y ey refl;
    })

-- ---- an end that lies on the other segment is a shared point
pub touch_meets : (a b c d : Point) → (On c a b ⊎ On d a b) ⊎ (On a c d ⊎ On b c d) → Shared a b c d
touch_meets a b c d (inl (inl o)) = on_line o.line (on_dot o)
touch_meets a b c d (inl (inr o)) = turned_second (on_line o.line (on_dot o))
touch_meets a b c d (inr (inl o)) = exchanged (on_line o.line (on_dot o))
touch_meets a b c d (inr (inr o)) = exchanged (turned_second (on_line o.line (on_dot o)))
