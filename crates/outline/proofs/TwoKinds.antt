-- The theorems of `TwoKinds`: its definitions and first laws are in specs/.
use Rattle.std.specs.Prelude.{◌≡◌, true, ◌⊎◌, ◌↔◌, List, ℕ, ◌<◌, ℤ, pos}
use Rattle.std.proofs.Common.{ap, ap₂, subst, inl, inr}
use Rattle.std.proofs.Math.IntN.{+ℤ_comm}
use Rattle.outline.specs.Drawing.{Sound, corner, corners, Angle, Beside, Sees}
use Rattle.outline.specs.InOrOn.{CentreSees}
use Rattle.outline.specs.Seeing.{Passes, passes_back, beside_back, beside_or}
use Rattle.outline.specs.Parity.{pt, odd, large}
use Rattle.outline.specs.Reading.{round}
use Rattle.outline.proofs.CentreMiddle.{middle_enough, sees_middle}
use Rattle.outline.specs.CentreSight.{centre_beside}
use Rattle.outline.specs.Way.{Free, free_of}
use Rattle.outline.specs.Barred.{crossed_unseen, grazed_unseen}
use Rattle.outline.specs.FreeSight.{free_passes, free_sight}
use Rattle.outline.specs.CornerTells.{Verdict}
use Rattle.outline.specs.HalfWay.{mid}
use Rattle.outline.proofs.HalfWay.{angle_mid, mid_in, in_mid}
use Rattle.outline.specs.LeftIn.{left_in}
use Rattle.outline.specs.TwoKinds.{holds, shows}

module _ (d : List ℤ) (sound : Sound d) where
  -- ---- nothing between i and j: half way tells both angles, and a centre's sight
  module _ (i j : ℕ) (hi : i < corners d) (hj : j < corners d) (apart : ¬ Beside d i j) (free : Free d i j) where
    passes : (k : ℕ) → k < corners d → Passes d i j k
    passes = free_passes d sound.simple i j hi hj apart free

    at_i : Verdict true (Angle d i j) (mid d i j)
    at_i =
        subst (λ l. Verdict l (Angle d i j) (mid d i j)) (left_in d sound)
        (angle_mid d sound.simple i j hi hj apart passes)

    same_mid : mid d j i ≡ mid d i j
    same_mid =
        ap (λ z. odd (large (pos 2) (round d)) z (corners d))
        (ap₂ pt (+ℤ_comm (corner d j).x (corner d i).x) (+ℤ_comm (corner d j).y (corner d i).y))

    at_j : Verdict true (Angle d j i) (mid d i j)
    at_j =
        subst (Verdict true (Angle d j i)) same_mid
        (subst (λ l. Verdict l (Angle d j i) (mid d j i)) (left_in d sound)
        (angle_mid d sound.simple j i hj hi (λ b. apart (beside_back d j i b)) (λ k h. passes_back (passes k h))))

    centre_mid : CentreSees d i j ↔ (mid d i j ≡ true)
    centre_mid = (
      λ s. in_mid d sound.simple i j hi hj apart passes
          (sees_middle d sound.simple i j hi hj (λ e. apart (inl e)) s),
      λ e. middle_enough d sound.simple i j hi hj (λ e. apart (inl e)) (λ k h. (free k h).no_third)
          (λ k h. (free k h).uncrossed) (mid_in d sound.simple i j hi hj apart passes e),
    )

    -- the two kinds are one
    pub free_kinds : CentreSees d i j ↔ Sees d i j
    free_kinds = (
      λ s. let e = centre_mid.0 s in
          (free_sight d sound.simple i j hi hj apart free).0 (holds at_i e, holds at_j e),
      λ s. centre_mid.1 (shows at_i ((free_sight d sound.simple i j hi hj apart free).1 s).0),
    )

  -- ---- every pair
  module _ (i j : ℕ) (hi : i < corners d) (hj : j < corners d) (s : Sees d i j) where
    -- nothing stands between two corners that see each other and are not neighbours
    sees_free : ¬ Beside d i j → Free d i j
    sees_free apart k hk =
        free_of d i j k hk (λ x. crossed_unseen d sound.simple i j hi hj apart k hk x s)
        (λ g. grazed_unseen d sound.simple i j hi hj apart k g s)

    pub strict_centre : CentreSees d i j
    strict_centre = go (beside_or d i j)
      where
        go : Beside d i j ⊎ (¬ Beside d i j) → CentreSees d i j
        go (inl b) = centre_beside i j hi hj b
        go (inr n) = (free_kinds i j hi hj n (sees_free n)).1 s
