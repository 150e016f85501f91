-- What two segments share does not depend on which is named first, nor on the order of their ends. Two ends strictly
-- on one side of a line leave nothing to share with a segment on that line.
use Rattle.std.specs.Prelude.{◌≡◌, refl, ◌⊎◌, ℤ, pos, neg_ℤ, ◌+ℤ◌, ◌-ℤ◌, ◌*ℤ◌, ◌<ℤ◌}
use Rattle.std.proofs.Common.{sym, ◌∙◌, subst, inl, inr}
use Rattle.std.specs.Int.Signed.{<ℤ_irrefl}
use Rattle.whole.specs.Ring.{E, ◌:+◌, ◌:-◌, ◌:*◌, neg, ring, ring1, ring2, by_ring}
use Rattle.whole.specs.Order.{Nonneg, Positive, le_sub, sub_le, lt_sub, nonneg_add, nonneg_mul, positive_add}
use Rattle.whole.specs.Order.{positive_pred, square_nonneg}
use Rattle.outline.specs.Drawing.{Point, Shared, SharedOnlyAt, turn_of}
use Rattle.outline.specs.Spell.{A, B, C, D, Q, R, O, I, env, env4, TurnE, At, ab_x, ab_y, cd_x, cd_y}

-- ---- the segments exchanged, and each turned round
pub exchanged : {a b c d : Point} → Shared a b c d → Shared c d a b
exchanged s =
    record {
      p = s.q;
      q = s.p;
      r = s.r;
      r_above = s.r_above;
      p_from = s.q_from;
      p_to = s.q_to;
      q_from = s.p_from;
      q_to = s.p_to;
      same_x = sym s.same_x;
      same_y = sym s.same_y;
    }

pub turned_second : {a b c d : Point} → Shared a b c d → Shared a b d c
turned_second {a} {b} {c} {d} s =
    let ρ = env a b c d s.p s.q s.r in
    record {
      p = s.p;
      q = s.r -ℤ s.q;
      r = s.r;
      r_above = s.r_above;
      p_from = s.p_from;
      p_to = s.p_to;
      q_from = le_sub s.q_to;
      q_to = sub_le (by_ring ρ Nonneg Q (R :- (R :- Q)) refl s.q_from);
      same_x = ring1 ρ ab_x (At R D.x (R :- Q) C.x) I ab_x cd_x s.same_x refl;
      same_y = ring1 ρ ab_y (At R D.y (R :- Q) C.y) I ab_y cd_y s.same_y refl;
    }

pub turned_first : {a b c d : Point} → Shared a b c d → Shared b a c d
turned_first s = exchanged (turned_second (exchanged s))

pub only_exchanged : {e a b c d : Point} → SharedOnlyAt e a b c d → SharedOnlyAt e c d a b
unfolding exchanged
only_exchanged h s =
    let at_e = h (exchanged s) in
    record { on_x = s.same_x ∙ at_e.on_x; on_y = s.same_y ∙ at_e.on_y }

pub only_second : {e a b c d : Point} → SharedOnlyAt e a b c d → SharedOnlyAt e a b d c
unfolding turned_second
only_second h s = h (turned_second s)

pub only_first : {e a b c d : Point} → SharedOnlyAt e a b c d → SharedOnlyAt e b a c d
only_first h = only_exchanged (only_second (only_exchanged h))

-- ---- points and turns
pub point_eq : {a b : Point} → a.x ≡ b.x → a.y ≡ b.y → a ≡ b
point_eq ex ey = λ i. record { x = ex i; y = ey i }

-- seen from the other end, left is right
pub turn_back : (a b c : Point) → neg_ℤ (turn_of a b c) ≡ turn_of b a c
turn_back a b c = ring (env4 a b c c) (neg (TurnE A B C)) (TurnE B A C) refl

-- the ends of a segment do not turn from it
pub turn_start : (a b : Point) → turn_of a b a ≡ pos 0
turn_start a b = ring (env4 a b a b) (TurnE A B A) O refl

pub turn_end : (a b : Point) → turn_of a b b ≡ pos 0
turn_end a b = ring (env4 a b a b) (TurnE A B B) O refl

-- ---- two turns of one sign, neither zero
abbrev pub OneSide : ℤ → ℤ → Type 0
OneSide s t = ((pos 0 <ℤ s) × (pos 0 <ℤ t)) ⊎ ((s <ℤ pos 0) × (t <ℤ pos 0))

-- of two signs, neither zero
abbrev pub Apart : ℤ → ℤ → Type 0
Apart s t = ((pos 0 <ℤ s) × (t <ℤ pos 0)) ⊎ ((s <ℤ pos 0) × (pos 0 <ℤ t))

pub apart_off : {s t : ℤ} → Apart s t → ¬ ((s ≡ pos 0) ⊎ (t ≡ pos 0))
apart_off (inl h) (inl e) = <ℤ_irrefl (subst Positive e h.0)
apart_off (inl h) (inr e) = <ℤ_irrefl (subst (λ z. z <ℤ pos 0) e h.1)
apart_off (inr h) (inl e) = <ℤ_irrefl (subst (λ z. z <ℤ pos 0) e h.0)
apart_off (inr h) (inr e) = <ℤ_irrefl (subst Positive e h.1)

-- a point that cd shares with ab does not turn from ab, so the turns of c and d, weighed by the point's place on cd,
-- make nothing
weighed : E
weighed = (R :- Q) :* TurnE A B C :+ Q :* TurnE A B D

left_side : {a b c d : Point} → Positive (turn_of a b c) → Positive (turn_of a b d) → ¬ Shared a b c d
unfolding weighed
left_side {a} {b} {c} {d} hc hd s =
    let ρ = env a b c d s.p s.q s.r in
    <ℤ_irrefl
    (subst Positive
    (ring2 ρ weighed O (B.y :- A.y) ab_x cd_x (neg (B.x :- A.x)) ab_y cd_y s.same_x s.same_y refl)
    (by_ring ρ Positive (R :+ ((R :- Q) :* (TurnE A B C :- I) :+ Q :* (TurnE A B D :- I))) weighed refl
    (positive_add s.r_above
    (nonneg_add (nonneg_mul (le_sub s.q_to) (positive_pred hc)) (nonneg_mul s.q_from (positive_pred hd))))))

-- the right side of ab is the left side of ba
pub one_side : {a b c d : Point} → OneSide (turn_of a b c) (turn_of a b d) → ¬ Shared a b c d
one_side (inl h) s = left_side h.0 h.1 s
one_side {a} {b} {c} {d} (inr h) s =
    left_side (by_ring (env4 a b c d) Positive (O :- TurnE A B C) (TurnE B A C) refl (lt_sub h.0))
    (by_ring (env4 a b c d) Positive (O :- TurnE A B D) (TurnE B A D) refl (lt_sub h.1)) (turned_first s)

-- ---- the other product of two segments that start at z, (u - z) . (w - z): of three points on one line, z lies on
-- the segment uw exactly when it is not above zero
abbrev pub Dot : Point → Point → Point → ℤ
Dot z u w = (u.x -ℤ z.x) *ℤ (w.x -ℤ z.x) +ℤ (u.y -ℤ z.y) *ℤ (w.y -ℤ z.y)

pub dot_nonneg : (z w : Point) → Nonneg (Dot z w w)
dot_nonneg z w = nonneg_add (square_nonneg (w.x -ℤ z.x)) (square_nonneg (w.y -ℤ z.y))
