-- Two segments with a common end e: the quick test that they share only e, and that it equals the definition, for all
-- points, equal ends included. The segments ea and ec share more than e exactly when they point the same way: on one
-- line, and not away from each other.
use Rattle.std.specs.Prelude.{◌≡◌, refl, ◌⊎◌, pos, ◌+ℤ◌, ◌-ℤ◌, ◌*ℤ◌, ◌≤ℤ◌, ◌<ℤ◌}
use Rattle.std.proofs.Common.{subst, inl, inr}
use Rattle.std.specs.Int.Signed.{<ℤ_irrefl}
use Rattle.whole.specs.Ring.{E, ◌:+◌, ◌:-◌, ◌:*◌, neg, ring1, ring2, by_ring}
use Rattle.whole.specs.Order.{Nonneg, Positive, le_sub, sub_le, nonneg_mul, nonneg_cancel, positive_add, zero_cancel}
use Rattle.whole.specs.Order.{squares_zero, ≤ℤ_total, ≤ℤ_antisym, <ℤ_le}
use Rattle.outline.specs.Drawing.{Point, Shared, IsAt, SharedOnlyAt, turn_of}
use Rattle.outline.specs.Segments.{Dot, dot_nonneg}
use Rattle.outline.specs.Spell.{A, B, C, P, Q, R, O, I, env, TurnE, DotE, At, ab_x, ab_y}

abbrev pub OnlyEnd : Point → Point → Point → Type 0
OnlyEnd e a c = turn_of e a c ≡ pos 0 → Dot e a c ≤ℤ pos 0

-- A, B and C spell e, a and c; the point on the second segment is then
abbrev ec_x : E
ec_x = At R A.x Q C.x

abbrev ec_y : E
ec_y = At R A.y Q C.y

-- ---- what passes the test shares only e
-- a shared point has p (a - e) = q (c - e), so that p Turn(e,a,c) = 0 and p (a - e) . (a - e) = q (a - e) . (c - e)
away : {e a c : Point} (s : Shared e a e c) → Positive s.p → OnlyEnd e a c → IsAt e e a s.p s.r
away {e} {a} {c} s k h =
    let ρ = env e a c c s.p s.q s.r in
    let turn : turn_of e a c ≡ pos 0 =
    zero_cancel k
    (ring2 ρ (P :* TurnE A B C) O (C.y :- A.y) ab_x ec_x (neg (C.x :- A.x)) ab_y ec_y
    s.same_x s.same_y refl) in
    let sizes : s.q *ℤ (pos 0 -ℤ Dot e a c) ≡ s.p *ℤ (pos 0 -ℤ Dot e a a) =
    ring2 ρ (Q :* (O :- DotE A B C)) (P :* (O :- DotE A B B))
    (B.x :- A.x) ab_x ec_x (B.y :- A.y) ab_y ec_y s.same_x s.same_y refl in
    let size : Dot e a a ≤ℤ pos 0 =
    sub_le (nonneg_cancel k (subst Nonneg sizes (nonneg_mul s.q_from (le_sub (h turn))))) in
    let z = squares_zero (a.x -ℤ e.x) (a.y -ℤ e.y) size in
    record {
      on_x = ring1 ρ ab_x (R :* A.x) P (B.x :- A.x) O z.0 refl;
      on_y = ring1 ρ ab_y (R :* A.y) P (B.y :- A.y) O z.1 refl;
    }

pub only_sound : {e a c : Point} → OnlyEnd e a c → SharedOnlyAt e e a e c
only_sound {e} {a} {c} h s = go (≤ℤ_total s.p (pos 0))
  where
    go : (s.p ≤ℤ pos 0) ⊎ (pos 0 <ℤ s.p) → IsAt e e a s.p s.r
    go (inl k) =
        let ρ = env e a c c s.p s.q s.r in
        let z = ≤ℤ_antisym k s.p_from in
        record {
          on_x = ring1 ρ ab_x (R :* A.x) (B.x :- A.x) P O z refl;
          on_y = ring1 ρ ab_y (R :* A.y) (B.y :- A.y) P O z refl;
        }
    go (inr k) = away s k h

-- ---- what fails the test shares another point: p = (a - e) . (c - e), q = (a - e) . (a - e), r = p + q
sum : E
sum = DotE A B C :+ DotE A B B

same_way : {e a c : Point} → turn_of e a c ≡ pos 0 → Positive (Dot e a c) → Shared e a e c
unfolding sum
same_way {e} {a} {c} t k =
    let ρ = env e a c c (pos 0) (pos 0) (pos 0) in
    record {
      p = Dot e a c;
      q = Dot e a a;
      r = Dot e a c +ℤ Dot e a a;
      r_above = positive_add k (dot_nonneg e a);
      p_from = <ℤ_le k;
      p_to = sub_le (by_ring ρ Nonneg (DotE A B B) (sum :- DotE A B C) refl (dot_nonneg e a));
      q_from = dot_nonneg e a;
      q_to = sub_le (by_ring ρ Nonneg (DotE A B C) (sum :- DotE A B B) refl (<ℤ_le k));
      same_x = ring1 ρ (At sum A.x (DotE A B C) B.x) (At sum A.x (DotE A B B) C.x) (B.y :- A.y)
          (TurnE A B C) O t refl;
      same_y = ring1 ρ (At sum A.y (DotE A B C) B.y) (At sum A.y (DotE A B B) C.y) (neg (B.x :- A.x))
          (TurnE A B C) O t refl;
    }

pub only_complete : {e a c : Point} → SharedOnlyAt e e a e c → OnlyEnd e a c
unfolding same_way
only_complete {e} {a} {c} h t = go (≤ℤ_total (Dot e a c) (pos 0))
  where
    go : (Dot e a c ≤ℤ pos 0) ⊎ (pos 0 <ℤ Dot e a c) → Dot e a c ≤ℤ pos 0
    go (inl k) = k
    go (inr k) =
        let at_e = h (same_way t k) in
        let ρ = env e a c c (Dot e a c) (pos 0) (Dot e a c +ℤ Dot e a a) in
        let zx : a.x -ℤ e.x ≡ pos 0 =
        zero_cancel k (ring1 ρ (P :* (B.x :- A.x)) O I ab_x (R :* A.x) at_e.on_x refl) in
        let zy : a.y -ℤ e.y ≡ pos 0 =
        zero_cancel k (ring1 ρ (P :* (B.y :- A.y)) O I ab_y (R :* A.y) at_e.on_y refl) in
        absurd (<ℤ_irrefl (subst Positive
        (ring2 ρ (DotE A B C) O (C.x :- A.x) (B.x :- A.x) O (C.y :- A.y) (B.y :- A.y) O zx zy refl) k))
