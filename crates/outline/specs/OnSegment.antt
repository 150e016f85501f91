-- A point on a segment: the segment turned round. And a pair of whole numbers on it: what other segments share there,
-- and that a turn and a product tell it.
use Rattle.std.specs.Prelude.{◌≡◌, refl, [], ◌∷◌, ℤ, pos, ◌-ℤ◌, ◌*ℤ◌, ◌≤ℤ◌, ◌<ℤ◌}
use Rattle.whole.specs.Ring.{E, v, ◌:-◌, ◌:*◌, neg, ring1, ring2, by_ring}
use Rattle.whole.specs.Order.{Nonneg, nonneg_pos, positive_nonneg, zero_cancel, diff_zero, le_sub, sub_le}
use Rattle.outline.specs.Drawing.{Point, turn_of, Shared, SharedOnlyAt}
use Rattle.outline.specs.InOrOn.{Spot, spot, OnSegment}
use Rattle.outline.specs.Passing.{top}
use Rattle.outline.specs.Segments.{point_eq, Dot}
use Rattle.outline.specs.Quick.{on_line}
use Rattle.outline.specs.Spell.{A, B, C, D, P, Q, R, O, I, env, At, ab_x, ab_y}

-- A and B spell the ends a and b, C and R the point, which P and Q name on ab
abbrev on_abx : E
on_abx = At Q A.x P B.x

abbrev on_aby : E
on_aby = At Q A.y P B.y

pub on_turned : {z : Spot} {a b : Point} → OnSegment z a b → OnSegment z b a
on_turned {z} {a} {b} o =
    let ρ = env a b (top z) (top z) o.p o.q z.r in
    record {
      p = o.q -ℤ o.p;
      q = o.q;
      q_above = o.q_above;
      p_from = le_sub o.p_to;
      p_to = sub_le (by_ring ρ Nonneg P (Q :- (Q :- P)) refl o.p_from);
      on_x = ring1 ρ (R :* At Q B.x (Q :- P) A.x) (Q :* C.x) I (R :* on_abx) (Q :* C.x) o.on_x refl;
      on_y = ring1 ρ (R :* At Q B.y (Q :- P) A.y) (Q :* C.y) I (R :* on_aby) (Q :* C.y) o.on_y refl;
    }

-- ---- a segment that begins at a pair of whole numbers of ab shares it
pub on_shared : {e a b : Point} → OnSegment (spot e) a b → (d : Point) → Shared a b e d
on_shared {e} {a} {b} o d =
    let ρ = env a b e d o.p o.q (pos 0) in
    record {
      p = o.p;
      q = pos 0;
      r = o.q;
      r_above = o.q_above;
      p_from = o.p_from;
      p_to = o.p_to;
      q_from = nonneg_pos 0;
      q_to = positive_nonneg o.q_above;
      same_x = ring1 ρ on_abx (At Q C.x O D.x) I (I :* on_abx) (Q :* C.x) o.on_x refl;
      same_y = ring1 ρ on_aby (At Q C.y O D.y) I (I :* on_aby) (Q :* C.y) o.on_y refl;
    }

-- and where only e is shared, the point is e
same_number : {q s e c : ℤ} → pos 0 <ℤ q → s ≡ q *ℤ e → pos 1 *ℤ s ≡ q *ℤ c → c ≡ e
same_number {q} {s} {e} {c} p f g =
    diff_zero c e (zero_cancel p (ring2 (q ∷ s ∷ e ∷ c ∷ []) (v 0 :* (v 3 :- v 2)) O
    I (v 1) (v 0 :* v 2) (neg I) (I :* v 1) (v 0 :* v 3) f g refl))

pub only_same : {a b c e : Point} (d : Point) → OnSegment (spot c) a b → SharedOnlyAt e a b c d → c ≡ e
unfolding on_shared
only_same d o f =
    let h = f (on_shared o d) in
    point_eq (same_number o.q_above h.on_x o.on_x) (same_number o.q_above h.on_y o.on_y)

-- what ab shares with the segment from e to e is e
pub shared_on : {e a b : Point} → Shared a b e e → OnSegment (spot e) a b
shared_on {e} {a} {b} s =
    let ρ = env a b e e s.p s.q s.r in
    record {
      p = s.p;
      q = s.r;
      q_above = s.r_above;
      p_from = s.p_from;
      p_to = s.p_to;
      on_x = ring1 ρ (I :* ab_x) (R :* C.x) I ab_x (At R C.x Q C.x) s.same_x refl;
      on_y = ring1 ρ (I :* ab_y) (R :* C.y) I ab_y (At R C.y Q C.y) s.same_y refl;
    }

pub on_of : {e a b : Point} → turn_of a b e ≡ pos 0 → Dot e a b ≤ℤ pos 0 → OnSegment (spot e) a b
on_of t h = shared_on (on_line t h)
