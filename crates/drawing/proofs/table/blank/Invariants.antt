-- `drawing::table::blank` meets its contract.
use Prim.Native.Nat.{◌≤◌}
use Rattle.outline.specs.Drawing.{corners}
use Rattle.drawing.proofs.Blank.{Blank}
use Rattle.drawing.proofs.table.blank.Given as goal

abbrev pub invariant-loop-i : goal.invariant-loop-i
invariant-loop-i l = (l.i ≤ corners l.ring.xy.now) × Blank (corners l.ring.xy.now) l.i l.initial.cells l.cells
