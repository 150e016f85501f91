-- Directions from one point W, told by turns and products: which of two is left of the other, and which point away
-- from each other.
use Rattle.std.specs.Prelude.{◌≡◌, refl, pos, neg_ℤ}
use Rattle.std.proofs.Common.{subst}
use Rattle.std.specs.Int.Signed.{<ℤ_irrefl}
use Rattle.whole.specs.Ring.{◌:-◌, ◌:*◌, neg, ring, ring1, ring2, by_ring}
use Rattle.whole.specs.Order.{Nonneg, Positive, Sign, plus, nought, minus, sign, le_sub, positive_not, positive_mul}
use Rattle.whole.specs.Order.{positive_cancel, zero_cancel}
use Rattle.outline.specs.Drawing.{Point, turn_of}
use Rattle.outline.specs.Segments.{Dot, dot_nonneg}
use Rattle.outline.specs.Ends.{OnlyEnd}
use Rattle.outline.specs.Spell.{A, B, C, D, O, I, env4, TurnE, DotE}

-- ---- b is left of a where a is right of b
module _ (W a b : Point) where
  pub right_left : Positive (neg_ℤ (turn_of W a b)) → Positive (turn_of W b a)
  right_left h = by_ring (env4 W a b b) Positive (neg (TurnE A B C)) (TurnE A C B) refl h

  pub left_right : Positive (turn_of W a b) → Positive (neg_ℤ (turn_of W b a))
  left_right h = by_ring (env4 W a b b) Positive (TurnE A B C) (neg (TurnE A C B)) refl h

  pub in_line_back : turn_of W a b ≡ pos 0 → turn_of W b a ≡ pos 0
  in_line_back e = ring1 (env4 W a b b) (TurnE A C B) O (neg I) (TurnE A B C) O e refl

  -- the turn at W, from a to b, is that from b to a around W
  pub turn_at : turn_of a W b ≡ turn_of W b a
  turn_at = ring (env4 W a b b) (TurnE B A C) (TurnE A C B) refl

pub length_back : (a b : Point) → Positive (Dot a b b) → Positive (Dot b a a)
length_back a b h = by_ring (env4 a b b b) Positive (DotE A B B) (DotE B A A) refl h

-- ---- a and b on one line with W, on its two sides
abbrev pub Away : Point → Point → Point → Type 0
Away W a b = turn_of W a b ≡ pos 0 → Positive (neg_ℤ (Dot W a b))

-- where a and b share only W with each other, on one line they point away
pub away_of : (W a b : Point) → Positive (Dot W a a) → Positive (Dot W b b) → OnlyEnd W a b → Away W a b
away_of W a b la lb only e = go (sign (Dot W a b))
  where
    go : Sign (Dot W a b) → Positive (neg_ℤ (Dot W a b))
    go (plus k) =
        positive_not k (by_ring (env4 W a b b) Nonneg (O :- DotE A B C) (neg (DotE A B C)) refl (le_sub (only e)))
    go (minus k) = k
    go (nought k) =
        absurd (<ℤ_irrefl (subst Positive
        (ring2 (env4 W a b b) (DotE A B B :* DotE A C C) O (TurnE A B C) (TurnE A B C) O (DotE A B C) (DotE A B C) O
        e k refl)
        (positive_mul la lb)))

-- what is left of the one is right of the other
module _ (W a b z : Point) (line : turn_of W a b ≡ pos 0) (away : Positive (neg_ℤ (Dot W a b))) where
  pub left_of_other : Positive (turn_of W a z) → Positive (neg_ℤ (turn_of W b z))
  left_of_other h =
      positive_cancel (dot_nonneg W a) (subst Positive
      (ring1 (env4 W a b z) (neg (DotE A B C) :* TurnE A B D) (DotE A B B :* neg (TurnE A C D)) (neg (DotE A B D))
      (TurnE A B C) O line refl)
      (positive_mul away h))

  pub right_of_other : Positive (turn_of W z a) → Positive (neg_ℤ (turn_of W z b))
  right_of_other h =
      positive_cancel (dot_nonneg W a) (subst Positive
      (ring1 (env4 W a b z) (neg (DotE A B C) :* TurnE A D B) (DotE A B B :* neg (TurnE A D C)) (DotE A B D)
      (TurnE A B C) O line refl)
      (positive_mul away h))

-- ---- a and b on the line of two points i and j: then i and j are on the line ab
-- from i, (j . j)(a x b) = (j . a)(j x b) - (j . b)(j x a)
pub all_in_line : (i j a b : Point) → Positive (Dot i j j) → turn_of i j a ≡ pos 0 → turn_of i j b ≡ pos 0 →
    (turn_of a b i ≡ pos 0) × (turn_of a b j ≡ pos 0)
all_in_line i j a b long e f = (
  zero_cancel long
      (ring2 (env4 i j a b) (DotE A B B :* TurnE C D A) O (DotE A B C) (TurnE A B D) O (neg (DotE A B D)) (TurnE A B C)
      O f e refl),
  zero_cancel long
      (ring2 (env4 i j a b) (DotE A B B :* TurnE C D B) O (DotE A B C :- DotE A B B) (TurnE A B D) O
      (DotE A B B :- DotE A B D) (TurnE A B C) O f e refl),
)
