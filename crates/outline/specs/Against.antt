-- Where a corner lies against a side, and what follows from that for sight: laws over plain points.
use Rattle.std.specs.Prelude.{◌≡◌, refl, ◌⊎◌, pos, ◌-ℤ◌, ◌≤ℤ◌, ◌<ℤ◌}
use Rattle.std.proofs.Common.{subst, inl, inr}
use Rattle.std.specs.Int.Signed.{<ℤ_irrefl, clash_ℤ}
use Rattle.whole.specs.Ring.{E, ◌:+◌, ◌:-◌, ◌:*◌, neg, ring1, ring2, by_ring}
use Rattle.whole.specs.Order.{Nonneg, Positive, le_sub, sub_le, lt_sub, sub_lt, nonneg_add, nonneg_mul}
use Rattle.whole.specs.Order.{positive_add, positive_mul, positive_cancel, zero_cancel, squares_zero, ≤ℤ_total}
use Rattle.outline.specs.Drawing.{Point, Shared, turn_of, InsideAngle}
use Rattle.outline.specs.Segments.{turned_second, Dot, dot_nonneg}
use Rattle.outline.specs.Ends.{OnlyEnd}
use Rattle.outline.specs.Spell.{A, B, C, D, P, Q, R, O, I, env, env4, TurnE, DotE, ab_x, ab_y, cd_x, cd_y}

-- ---- a strictly left of cd, and b on its line but off the segment: nothing is shared
-- the turns of a and b from cd, weighed by the shared point's place on ab, make nothing; so the point is b, and b is
-- on the segment
weighed : E
weighed = (R :- P) :* TurnE C D A :+ P :* TurnE C D B

-- (c - b) . (d - b) of b at the part q / r of cd
parts : E
parts = R :* R :* DotE B C D :+ Q :* (R :- Q) :* DotE C D D

pub aside : {a b c d : Point} → Positive (turn_of c d a) → turn_of c d b ≡ pos 0 → Positive (Dot b c d) →
    ¬ Shared a b c d
unfolding weighed parts
aside {a} {b} {c} {d} left on off s =
    let ρ = env a b c d s.p s.q s.r in
    let e = ring2 ρ weighed O (neg (D.y :- C.y)) ab_x cd_x (D.x :- C.x) ab_y cd_y s.same_x s.same_y refl in
    let z : s.r -ℤ s.p ≡ pos 0 =
    zero_cancel left (ring2 ρ (TurnE C D A :* (R :- P)) O I weighed O (neg P) (TurnE C D B) O e on refl) in
    let ex = ring2 ρ (R :* B.x) cd_x I ab_x cd_x (B.x :- A.x) (R :- P) O s.same_x z refl in
    let ey = ring2 ρ (R :* B.y) cd_y I ab_y cd_y (B.y :- A.y) (R :- P) O s.same_y z refl in
    <ℤ_irrefl
    (subst Positive
    (ring2 ρ parts O (R :* B.x :+ cd_x :- R :* C.x :- R :* D.x) (R :* B.x) cd_x
    (R :* B.y :+ cd_y :- R :* C.y :- R :* D.y) (R :* B.y) cd_y ex ey refl)
    (positive_add (positive_mul (positive_mul s.r_above s.r_above) off)
    (nonneg_mul (nonneg_mul s.q_from (le_sub s.q_to)) (dot_nonneg c d))))

-- the right side of cd is the left side of dc
pub aside_right : {a b c d : Point} → turn_of c d a <ℤ pos 0 → turn_of c d b ≡ pos 0 → Positive (Dot b c d) →
    ¬ Shared a b c d
aside_right {a} {b} {c} {d} right on off s =
    let ρ = env4 a b c d in
    aside (by_ring ρ Positive (O :- TurnE C D A) (TurnE D C A) refl (lt_sub right))
    (ring1 ρ (TurnE D C B) O (neg I) (TurnE C D B) O on refl)
    (by_ring ρ Positive (DotE B C D) (DotE B D C) refl off) (turned_second s)

-- ---- the angle at i by the signs of j against the two sides there, p i and i q
module _ (p i q j : Point) where
  pub angle_left : Positive (turn_of p i q) → Positive (turn_of p i j) → Positive (turn_of i q j) → InsideAngle p i q j
  angle_left l s t = record {
    left = λ h. (t, by_ring (env4 p i q j) Positive (TurnE A B D) (TurnE B D A) refl s);
    other = λ n. absurd (n l);
  }

  pub angle_other : ¬ Positive (turn_of p i q) → Positive (turn_of p i j) ⊎ Positive (turn_of i q j) →
      InsideAngle p i q j
  angle_other n (inl s) = record {
    left = λ l. absurd (n l);
    other = λ m h. clash_ℤ (sub_lt (by_ring (env4 p i q j) Positive (TurnE A B D) (O :- TurnE B A D) refl s)) h.0;
  }
  angle_other n (inr t) = record {
    left = λ l. absurd (n l);
    other = λ m h. clash_ℤ (sub_lt (by_ring (env4 p i q j) Positive (TurnE B C D) (O :- TurnE B D C) refl t)) h.1;
  }

  pub angle_both : Positive (turn_of p i q) → InsideAngle p i q j → Positive (turn_of p i j) × Positive (turn_of i q j)
  angle_both l a = (by_ring (env4 p i q j) Positive (TurnE B D A) (TurnE A B D) refl (a.left l).1, (a.left l).0)

  pub angle_either : ¬ Positive (turn_of p i q) → InsideAngle p i q j → Positive (turn_of p i j) ⊎
      Positive (turn_of i q j)
  angle_either n a = go (≤ℤ_total (turn_of p i j) (pos 0)) (≤ℤ_total (turn_of i q j) (pos 0))
    where
      go : (turn_of p i j ≤ℤ pos 0) ⊎ (pos 0 <ℤ turn_of p i j) → (turn_of i q j ≤ℤ pos 0) ⊎ (pos 0 <ℤ turn_of i q j) →
          Positive (turn_of p i j) ⊎ Positive (turn_of i q j)
      go (inr s) y = inl s
      go (inl s) (inr t) = inr t
      go (inl s) (inl t) =
          absurd (a.other n (
            by_ring (env4 p i q j) Nonneg (O :- TurnE A B D) (TurnE B A D) refl (le_sub s),
            by_ring (env4 p i q j) Nonneg (O :- TurnE B C D) (TurnE B D C) refl (le_sub t),
          ))

  -- at least one of the two
  pub angle_some : InsideAngle p i q j → Positive (turn_of p i j) ⊎ Positive (turn_of i q j)
  angle_some a = go (≤ℤ_total (turn_of p i q) (pos 0))
    where
      go : (turn_of p i q ≤ℤ pos 0) ⊎ (pos 0 <ℤ turn_of p i q) → Positive (turn_of p i j) ⊎ Positive (turn_of i q j)
      go (inl n) = angle_either (λ l. clash_ℤ l n) a
      go (inr l) = inl (angle_both l a).0

  -- ---- inside the angle, the two sides share only i with the segment ij
  -- with i as origin (j . j)(q x p) = (j . q)(j x p) - (j x q)(j . p): j along q, and left of pi, would make the angle
  -- turn left
  off_after : Positive (turn_of p i j) → turn_of p i q ≤ℤ pos 0 → OnlyEnd i j q
  off_after s n t = go (≤ℤ_total (Dot i j q) (pos 0))
    where
      go : (Dot i j q ≤ℤ pos 0) ⊎ (pos 0 <ℤ Dot i j q) → Dot i j q ≤ℤ pos 0
      go (inl h) = h
      go (inr h) =
          absurd (clash_ℤ (positive_cancel (dot_nonneg i j) (subst Positive
          (ring1 (env4 p i q j) (DotE B D C :* TurnE A B D) (DotE B D D :* TurnE A B C) (DotE B D A)
          (TurnE B D C) O t refl)
          (positive_mul h s))) n)

  off_before : Positive (turn_of i q j) → turn_of p i q ≤ℤ pos 0 → OnlyEnd i j p
  off_before s n t = go (≤ℤ_total (Dot i j p) (pos 0))
    where
      go : (Dot i j p ≤ℤ pos 0) ⊎ (pos 0 <ℤ Dot i j p) → Dot i j p ≤ℤ pos 0
      go (inl h) = h
      go (inr h) =
          absurd (clash_ℤ (positive_cancel (dot_nonneg i j) (subst Positive
          (ring1 (env4 p i q j) (DotE B D A :* TurnE B C D) (DotE B D D :* TurnE A B C) (neg (DotE B D C))
          (TurnE B D A) O t refl)
          (positive_mul h s))) n)

  clear_after : Positive (turn_of i q j) → OnlyEnd i j q
  clear_after s t =
      absurd (<ℤ_irrefl (subst Positive (ring1 (env4 p i q j) (TurnE B C D) O (neg I) (TurnE B D C) O t refl) s))

  clear_before : Positive (turn_of p i j) → OnlyEnd i j p
  clear_before s t =
      absurd (<ℤ_irrefl (subst Positive (ring1 (env4 p i q j) (TurnE A B D) O I (TurnE B D A) O t refl) s))

  pub angle_ends : InsideAngle p i q j → OnlyEnd i j p × OnlyEnd i j q
  angle_ends a = go (≤ℤ_total (turn_of p i q) (pos 0))
    where
      side : turn_of p i q ≤ℤ pos 0 → Positive (turn_of p i j) ⊎ Positive (turn_of i q j) → OnlyEnd i j p ×
          OnlyEnd i j q
      side n (inl s) = (clear_before s, off_after s n)
      side n (inr t) = (off_before t n, clear_after t)

      go : (turn_of p i q ≤ℤ pos 0) ⊎ (pos 0 <ℤ turn_of p i q) → OnlyEnd i j p × OnlyEnd i j q
      go (inl n) = side n (angle_either (λ l. clash_ℤ l n) a)
      go (inr l) = let b = angle_both l a in (clear_before b.0, clear_after b.1)

  -- ---- a point at i is in no angle at i
  pub no_angle : Dot i j j ≤ℤ pos 0 → ¬ InsideAngle p i q j
  no_angle h a = go (angle_some a)
    where
      z : (j.x -ℤ i.x ≡ pos 0) × (j.y -ℤ i.y ≡ pos 0)
      z = squares_zero (j.x -ℤ i.x) (j.y -ℤ i.y) h

      go : Positive (turn_of p i j) ⊎ Positive (turn_of i q j) → ⊥
      go (inl s) =
          <ℤ_irrefl (subst Positive (ring2 (env4 p i q j) (TurnE A B D) O
          (A.y :- B.y) (D.x :- B.x) O (B.x :- A.x) (D.y :- B.y) O z.0 z.1 refl) s)
      go (inr s) =
          <ℤ_irrefl (subst Positive (ring2 (env4 p i q j) (TurnE B C D) O
          (neg (C.y :- B.y)) (D.x :- B.x) O (C.x :- B.x) (D.y :- B.y) O z.0 z.1 refl) s)

-- ---- i on the segment jm, which shares only j with ij: then i is at j
pub at_end : (i j m : Point) → turn_of j m i ≡ pos 0 → Dot i j m ≤ℤ pos 0 → OnlyEnd j i m → Dot i j j ≤ℤ pos 0
at_end i j m t h o =
    let ρ = env4 i j m m in
    let k = o (ring1 ρ (TurnE B A C) O (neg I) (TurnE B C A) O t refl) in
    sub_le (by_ring ρ Nonneg (O :- DotE A B C :+ (O :- DotE B A C)) (O :- DotE A B B) refl
    (nonneg_add (le_sub h) (le_sub k)))
