-- Laws of the two readings as they are made.
use mathlib.Core.Path.{◌≡◌}
use mathlib.Core.List.{List}
use Prim.Native.Nat.{ℕ, ◌<◌}
use lib.ListN.{replicate, length-replicate}
use Rattle.limits.specs.Limits.{all_cells}
use Rattle.rules.specs.Cells.{cell}
use Rattle.cutting.proofs.Rows.{zeros}
use Rattle.cutting.specs.Rows.{cut_by, veil_by, Veil, Read}

-- ---- each lane of the veil is 0 or none
-- a new table
pub veil_new : Veil (replicate all_cells 0)
veil_new = record { size = length-replicate {0} {A = ℕ} all_cells 0; at = λ k h. absurd (h (zeros all_cells k)) }

-- ---- the corner y is read, with the corners below t
pub record Reading (first second cuts veil : List ℕ) (n y t : ℕ) : Type 0 where
  pub done : Read first second cuts veil n y
  pub cut : (x : ℕ) → x < t → cell cuts x y ≡ cut_by (cell first x y) (cell second x y)
  pub lane : (x : ℕ) → x < t → cell veil y x ≡ veil_by (cell first x y) (cell second x y)
