-- A side whose line has two corners strictly apart, and which shares a point with the segment between them, has an end
-- lower than the higher of the two, unless they are of one height. By exchanging the axes it has an end west of the
-- eastern one.
use Rattle.std.specs.Prelude.{◌≡◌, ◌⊎◌, List, [], ◌∷◌, ℤ, pos, ◌-ℤ◌, ◌≤ℤ◌, ◌<ℤ◌}
use Rattle.std.proofs.Math.Path.{refl}
use Rattle.std.proofs.Common.{subst, inl, inr}
use Rattle.std.specs.Int.Signed.{<ℤ_irrefl}
use Rattle.whole.specs.Ring.{E, v, ◌:+◌, ◌:-◌, ◌:*◌, neg, ring1, ring2, by_ring}
use Rattle.whole.specs.Order.{Nonneg, Positive, Sign, plus, nought, minus, sign, le_sub, nonneg_add, nonneg_mul}
use Rattle.whole.specs.Order.{positive_add, positive_mul, positive_not, zero_cancel, ≤ℤ_total}
use Rattle.outline.specs.Drawing.{Point, turn_of, Shared}
use Rattle.outline.specs.Segments.{turned_first}
use Rattle.outline.specs.Spell.{A, B, C, D, P, Q, R, O, I, env, env4, TurnE, ab_x, ab_y, cd_x, cd_y}

-- ---- a shared point of ab and cd, where b is not on the line of cd, is lower than b if a is: so c or d is
-- the turns of a and b from cd, weighed by the point's place on ab, make nothing
weighed : E
weighed = (R :- P) :* TurnE C D A :+ P :* TurnE C D B

-- how far the point is below b, and below c and d
depths : E
depths = (R :- P) :* (B.y :- A.y) :+ ((R :- Q) :* (C.y :- B.y) :+ Q :* (D.y :- B.y))

module _ {a b c d : Point} (up : Positive (b.y -ℤ a.y)) (off : ¬ (turn_of c d b ≡ pos 0)) (s : Shared a b c d) where
  abbrev ρ : List ℤ
  ρ = env a b c d s.p s.q s.r

  not_b : Positive (s.r -ℤ s.p)
  unfolding weighed
  not_b = go (sign (s.r -ℤ s.p))
    where
      go : Sign (s.r -ℤ s.p) → Positive (s.r -ℤ s.p)
      go (plus h) = h
      go (minus h) = positive_not h (by_ring ρ Nonneg (R :- P) (neg (neg (R :- P))) refl (le_sub s.p_to))
      go (nought z) =
          let w = ring2 ρ weighed O (neg (D.y :- C.y)) ab_x cd_x (D.x :- C.x) ab_y cd_y
          s.same_x s.same_y refl in
          absurd (off (zero_cancel s.r_above
          (ring2 ρ (R :* TurnE C D B) O I weighed O (TurnE C D B :- TurnE C D A) (R :- P) O w z refl)))

  clash : b.y ≤ℤ c.y → b.y ≤ℤ d.y → ⊥
  unfolding depths
  clash hc hd =
      <ℤ_irrefl
      (subst Positive (ring1 ρ depths O (neg I) ab_y cd_y s.same_y refl)
      (positive_add (positive_mul not_b up)
      (nonneg_add (nonneg_mul (le_sub s.q_to) (le_sub hc)) (nonneg_mul s.q_from (le_sub hd)))))

  rising : (c.y <ℤ b.y) ⊎ (d.y <ℤ b.y)
  rising = go (≤ℤ_total b.y c.y) (≤ℤ_total b.y d.y)
    where
      go : (b.y ≤ℤ c.y) ⊎ (c.y <ℤ b.y) → (b.y ≤ℤ d.y) ⊎ (d.y <ℤ b.y) → (c.y <ℤ b.y) ⊎ (d.y <ℤ b.y)
      go (inr x) y = inl x
      go (inl x) (inr y) = inr y
      go (inl x) (inl y) = absurd (clash x y)

-- of one height, or the side has an end lower than one of the two
abbrev pub Reach : (Point → ℤ) → Point → Point → Point → Point → Type 0
Reach f a b c d = (f a ≡ f b) ⊎ (((f c <ℤ f a) ⊎ (f d <ℤ f a)) ⊎ ((f c <ℤ f b) ⊎ (f d <ℤ f b)))

pub reach_low : {a b c d : Point} → ¬ (turn_of c d a ≡ pos 0) → ¬ (turn_of c d b ≡ pos 0) → Shared a b c d →
    Reach (λ p. p.y) a b c d
reach_low {a} {b} {c} {d} na nb s = go (sign (b.y -ℤ a.y))
  where
    go : Sign (b.y -ℤ a.y) → Reach (λ p. p.y) a b c d
    go (plus h) = inr (inr (rising h nb s))
    go (nought e) = inl (ring1 (b.y ∷ a.y ∷ []) (v 1) (v 0) (neg I) (v 0 :- v 1) O e refl)
    go (minus h) =
        inr
        (inl (rising (by_ring (b.y ∷ a.y ∷ []) Positive (neg (v 0 :- v 1)) (v 1 :- v 0) refl h) na (turned_first s)))

-- ---- the axes exchanged
abbrev flip : Point → Point
flip p = record { x = p.y; y = p.x }

flip_turn : (c d a : Point) → turn_of (flip c) (flip d) (flip a) ≡ pos 0 → turn_of c d a ≡ pos 0
flip_turn c d a e =
    ring1 (env4 c d a a) (TurnE A B C) O (neg I) ((B.y :- A.y) :* (C.x :- A.x) :- (B.x :- A.x) :* (C.y :- A.y))
    O e refl

flip_shared : {a b c d : Point} → Shared a b c d → Shared (flip a) (flip b) (flip c) (flip d)
flip_shared s = record {
  p = s.p;
  q = s.q;
  r = s.r;
  r_above = s.r_above;
  p_from = s.p_from;
  p_to = s.p_to;
  q_from = s.q_from;
  q_to = s.q_to;
  same_x = s.same_y;
  same_y = s.same_x;
}

pub reach_west : {a b c d : Point} → ¬ (turn_of c d a ≡ pos 0) → ¬ (turn_of c d b ≡ pos 0) → Shared a b c d →
    Reach (λ p. p.x) a b c d
reach_west {a} {b} {c} {d} na nb s =
    reach_low (λ e. na (flip_turn c d a e)) (λ e. nb (flip_turn c d b e)) (flip_shared s)
