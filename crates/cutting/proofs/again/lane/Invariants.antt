-- `again::lane`: the lane is right from b on.
use mathlib.Core.Path.{◌≡◌}
use Prim.Native.Nat.{◌≤◌}
use lib.ListN.{length}
use Rattle.limits.specs.Limits.{row, all_cells}
use Rattle.cutting.proofs.Relaid.{Laning}
use Rattle.cutting.proofs.again.lane.Given as goal

abbrev pub invariant-loop-b : goal.invariant-loop-b
invariant-loop-b l =
    (l.x ≤ l.b) × (length l.col ≡ all_cells) × (length l.g ≡ row) ×
    Laning l.readings.veil l.val l.initial.col l.col l.g l.x l.j l.b
