-- `drawing::table::neighbours` meets its contract.
use Prim.Native.Nat.{◌≤◌}
use Rattle.outline.specs.Drawing.{corners}
use Rattle.drawing.specs.Table.{None, Grows}
use Rattle.drawing.proofs.Neighbours.{NextDone}
use Rattle.drawing.proofs.table.neighbours.Given as goal

abbrev pub invariant-loop-i : goal.invariant-loop-i
invariant-loop-i l =
    let d = l.ring.xy.now in
    (l.i ≤ corners d) × Grows d None (NextDone d l.i) l.initial.cells l.cells
