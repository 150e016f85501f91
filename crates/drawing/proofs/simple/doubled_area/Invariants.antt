-- `drawing::simple::doubled_area` meets its contract: the sum is that of the sides passed, and no larger than they
-- allow.
use mathlib.Core.List.{List}
use Prim.Native.Nat.{ℕ, ◌*◌, ◌≤◌}
use lib.IntN.{ℤ}
use Rattle.whole.specs.Bounds.{Val}
use Rattle.outline.specs.Drawing.{corners, area_to}
use Rattle.drawing.specs.Parts.{most_side_area}
use Rattle.drawing.proofs.simple.doubled_area.Given as goal

-- the machine's s is the sum of the first k sides
abbrev pub Summed : List ℤ → ℕ → ℤ → Type 0
Summed d k s = Val s (area_to d k) (k * most_side_area)

abbrev pub invariant-loop-k : goal.invariant-loop-k
invariant-loop-k l = (l.k ≤ corners l.xy) × Summed l.xy l.k l.sum
