-- `lanes::sweep`: the corners before b are tried.
use mathlib.Core.Path.{◌≡◌}
use lib.ListN.{length}
use Rattle.limits.specs.Limits.{row}
use Rattle.cutting.specs.Rows.{Swept}
use Rattle.cutting.proofs.lanes.sweep.Given as goal

abbrev pub invariant-loop-b : goal.invariant-loop-b
invariant-loop-b l = (length l.first ≡ row) × Swept l.val l.col l.i l.b l.first
