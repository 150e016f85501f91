-- The finite test of `CentreTest` as a truth value that antt computes, and that on a simple drawing it tells a
-- centre's sight.
-- (The theorems that follow are in proofs/, under the same name.)
use Rattle.std.specs.Prelude.{◌≡◌, refl, Bool, true, false, ◌&&◌, ◌||◌, ℤ, pos, neg_ℤ}
use Rattle.std.proofs.lemmas.Bool.{false≢true}
use Rattle.std.specs.Int.Signed.{lt_z}
use Rattle.outline.specs.Drawing.{Point, turn_of}
use Rattle.outline.specs.Tells.{Tells, as_well, surely, never, and_tells, or_tells}
use Rattle.outline.specs.Tells.{then_tells}
use Rattle.outline.specs.Tests.{lt_tells, share_test, share_tells}
use Rattle.outline.specs.Crossing.{Crosses}

-- ---- the side ab crosses the segment ij
abbrev opposite_test : ℤ → ℤ → Bool
opposite_test s t = (lt_z (pos 0) s && lt_z (pos 0) (neg_ℤ t)) || (lt_z (pos 0) (neg_ℤ s) && lt_z (pos 0) t)

abbrev pub crosses_test : Point → Point → Point → Point → Bool
crosses_test i j a b =
    elim (opposite_test (turn_of i j a) (turn_of i j b)) as (λ x. Bool) [ true ↦ share_test i j a b | false ↦ false ]

pub crosses_tells : (i j a b : Point) → Tells (crosses_test i j a b) (Crosses i j a b)
crosses_tells i j a b =
    as_well
    (then_tells
    (or_tells (and_tells (lt_tells _ _) (lt_tells _ _)) (and_tells (lt_tells _ _) (lt_tells _ _)))
    (share_tells i j a b))
    (λ h. record { ends = h.0; meets = h.1 }) (λ x. (x.ends, x.meets))

-- a value tells that it is true
pub true_tells : (b : Bool) → Tells b (b ≡ true)
true_tells true = surely refl
true_tells false = never false≢true
