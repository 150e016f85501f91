-- `Tables::through`: the least of the centres before x.
use Prim.Native.Nat.{◌+◌}
use Rattle.rules.specs.Cells.{cell}
use Rattle.rules.specs.Columns.{Least}
use Rattle.cutting.specs.Rows.{none}
use Rattle.cutting.proofs.lines.Tables.through.Given as goal

abbrev pub invariant-loop-x : goal.invariant-loop-x
invariant-loop-x l = Least none (λ y. cell l.self.left l.i y + cell l.self.right l.j y) l.i l.x l.m
