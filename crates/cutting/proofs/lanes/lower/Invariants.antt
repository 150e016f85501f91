-- `lanes::lower`: the lanes below x are lowered.
use mathlib.Core.Path.{◌≡◌}
use lib.ListN.{length}
use Rattle.limits.specs.Limits.{row}
use Rattle.cutting.proofs.Rows.{Lows}
use Rattle.cutting.proofs.lanes.lower.Given as goal

abbrev pub invariant-loop-x : goal.invariant-loop-x
invariant-loop-x l = (length l.first ≡ row) × Lows l.initial.first l.first l.col l.b l.v l.x
