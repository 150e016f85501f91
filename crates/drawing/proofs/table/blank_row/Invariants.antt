-- `drawing::table::blank_row` meets its contract.
use Prim.Native.Nat.{◌≤◌}
use Rattle.drawing.specs.Table.{RowBlank}
use Rattle.drawing.proofs.table.blank_row.Given as goal

abbrev pub invariant-loop-j : goal.invariant-loop-j
invariant-loop-j l = (l.j ≤ l.n) × RowBlank l.i l.j l.initial.cells l.cells
