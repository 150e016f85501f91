-- Two corners i and j of a simple drawing with nothing between them: half way the parity is what it is close to i, so
-- it tells whether j lies inside the angle at i, once one knows the value left of the sides.
-- (The theorems that follow are in proofs/, under the same name.)
use Rattle.std.specs.Prelude.{Bool, List, ℕ, ℤ}
use Rattle.outline.specs.Drawing.{corner, corners}
use Rattle.outline.specs.Reading.{round}
use Rattle.outline.specs.Value.{half_value}

-- the parity half way between corners i and j
abbrev pub mid : List ℤ → ℕ → ℕ → Bool
mid d i j = half_value (round d) (corners d) (corner d i) (corner d j)
