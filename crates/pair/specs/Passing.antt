-- What 01's table says of a pair that its lines are passed: two sound drawings.
use Rattle.std.specs.Prelude.{◌≡◌, List, ℤ}
use Rattle.std.proofs.Common.{arith}
use Rattle.outline.specs.Drawing.{corners, Shaped, Sound}
use Rattle.pair.specs.Pair.{Alike}

-- ---- a pair whose lines are passed: two sound drawings
pub record SoundPair (first second : List ℤ) : Type 0 where
  pub alike : Alike first second
  pub first_sound : Sound first
  pub second_sound : Sound second

module _ {first second : List ℤ} (a : Alike first second) where
  -- both lists are drawings
  pub first_shaped : Shaped first
  first_shaped = record { even = a.even; enough = a.enough; few = a.few }

  pub second_shaped : Shaped second
  second_shaped = record { even = omega arith; enough = omega arith; few = omega arith }

  pub equally_many : corners second ≡ corners first
  equally_many = omega arith
