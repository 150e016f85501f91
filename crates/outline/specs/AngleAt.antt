-- The angle at a corner W, between p before it and q after it, by turns at W: a sharp one, which turns left, asks a
-- point J to be left of both sides, a wide one to be left of either.
use Rattle.std.specs.Prelude.{◌≡◌, refl, ◌⊎◌, pos, neg_ℤ, ◌*ℤ◌}
use Rattle.std.proofs.Common.{sym, subst, inl, inr}
use Rattle.whole.specs.Ring.{◌:*◌, neg, ring1}
use Rattle.whole.specs.Order.{Nonneg, Positive, positive_nonneg, positive_mul, positive_not}
use Rattle.outline.specs.Drawing.{Point, turn_of, InsideAngle}
use Rattle.outline.specs.Segments.{Dot}
use Rattle.outline.specs.Against.{angle_left, angle_other, angle_both, angle_either}
use Rattle.outline.specs.Spell.{A, B, C, D, O, I, env4, TurnE, DotE}
use Rattle.outline.specs.Directions.{turn_at, Away, all_in_line}

-- ---- inside it
module _ (p W q J : Point) where
  pub in_sharp : Positive (turn_of W q p) → Positive (turn_of W J p) → Positive (turn_of W q J) → InsideAngle p W q J
  in_sharp h a b =
      angle_left p W q J (subst Positive (sym (turn_at W p q)) h) (subst Positive (sym (turn_at W p J)) a) b

  pub in_wide : ¬ Positive (turn_of W q p) → Positive (turn_of W J p) ⊎ Positive (turn_of W q J) → InsideAngle p W q J
  in_wide h a = angle_other p W q J (λ k. h (subst Positive (turn_at W p q) k)) (go a)
    where
      go : Positive (turn_of W J p) ⊎ Positive (turn_of W q J) → Positive (turn_of p W J) ⊎ Positive (turn_of W q J)
      go (inl a) = inl (subst Positive (sym (turn_at W p J)) a)
      go (inr b) = inr b

  -- ---- outside it
  pub out_sharp : Positive (turn_of W q p) → ¬ (Positive (turn_of W J p) × Positive (turn_of W q J)) →
      ¬ InsideAngle p W q J
  out_sharp h none i =
      let b = angle_both p W q J (subst Positive (sym (turn_at W p q)) h) i in
      none (subst Positive (turn_at W p J) b.0, b.1)

  pub out_wide : ¬ Positive (turn_of W q p) → ¬ Positive (turn_of W J p) → ¬ Positive (turn_of W q J) →
      ¬ InsideAngle p W q J
  out_wide h a b i = go (angle_either p W q J (λ k. h (subst Positive (turn_at W p q) k)) i)
    where
      go : Positive (turn_of p W J) ⊎ Positive (turn_of W q J) → ⊥
      go (inl k) = a (subst Positive (turn_at W p J) k)
      go (inr k) = b k

-- J cannot point away from both sides on one line, where these point away from each other
pub not_folded : (W J q p : Point) → Positive (Dot W J J) → Away W J q → Away W J p → Away W q p →
    turn_of W J q ≡ pos 0 →
    ¬ (turn_of W J p ≡ pos 0)
not_folded W J q p long off_q off_p turns e f =
    positive_not (positive_mul long (turns (ring1 (env4 W q p p) (TurnE A B C) O I (TurnE B C A) O
    (all_in_line W J q p long e f).0 refl)))
    (product e (positive_nonneg (positive_mul (off_q e) (off_p f))))
  where
    product : turn_of W J q ≡ pos 0 → Nonneg (neg_ℤ (Dot W J q) *ℤ neg_ℤ (Dot W J p)) →
        Nonneg (neg_ℤ (Dot W J J *ℤ neg_ℤ (Dot W q p)))
    product e h =
        subst Nonneg
        (ring1 (env4 W J q p) (neg (DotE A B C) :* neg (DotE A B D)) (neg (DotE A B B :* neg (DotE A C D)))
        (neg (TurnE A B D)) (TurnE A B C) O e refl) h
