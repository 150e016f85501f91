-- `lanes::begin`: the lanes below x are the veil's.
use mathlib.Core.Path.{◌≡◌}
use lib.ListN.{length}
use Rattle.limits.specs.Limits.{all_cells}
use Rattle.cutting.proofs.Rows.{Begins}
use Rattle.cutting.proofs.lanes.begin.Given as goal

abbrev pub invariant-loop-x : goal.invariant-loop-x
invariant-loop-x l = (length l.col ≡ all_cells) × Begins l.veil l.col l.j l.x
