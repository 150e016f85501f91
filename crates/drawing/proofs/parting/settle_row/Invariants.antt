-- `drawing::parting::settle_row` meets its contract: the pairs with the corners before j are settled.
use Prim.Native.Nat.{◌≤◌}
use Rattle.outline.specs.Drawing.{corners}
use Rattle.drawing.specs.Table.{RowSettled}
use Rattle.drawing.proofs.parting.settle_row.Given as goal

abbrev pub invariant-loop-j : goal.invariant-loop-j
invariant-loop-j l = (l.j ≤ corners l.ring.xy.now) × RowSettled l.ring.xy.now l.i l.j l.initial.cells l.cells
