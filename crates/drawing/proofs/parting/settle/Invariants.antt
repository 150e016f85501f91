-- `drawing::parting::settle` meets its contract: the rows before i are settled.
use Prim.Native.Nat.{◌≤◌}
use Rattle.outline.specs.Drawing.{corners}
use Rattle.drawing.specs.Table.{RowsSettled}
use Rattle.drawing.proofs.parting.settle.Given as goal

abbrev pub invariant-loop-i : goal.invariant-loop-i
invariant-loop-i l = (l.i ≤ corners l.ring.xy.now) × RowsSettled l.ring.xy.now l.i l.initial.cells l.cells
