-- `lanes::finish`: the lanes below x are the row's.
use mathlib.Core.Path.{◌≡◌}
use lib.ListN.{length}
use Rattle.limits.specs.Limits.{all_cells}
use Rattle.cutting.proofs.Rows.{Finishes}
use Rattle.cutting.proofs.lanes.finish.Given as goal

abbrev pub invariant-loop-x : goal.invariant-loop-x
invariant-loop-x l =
    (length l.col ≡ all_cells) × Finishes l.first l.veil l.initial.col l.col l.i l.j l.v l.x
