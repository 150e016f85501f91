-- `drawing::beginnings::beginnings` meets its contract: the corners before i are told.
use Prim.Native.Nat.{◌≤◌}
use Rattle.outline.specs.Drawing.{corners, Beside}
use Rattle.drawing.specs.Table.{Begun, Grows}
use Rattle.drawing.proofs.beginnings.beginnings.Given as goal

abbrev pub invariant-loop-i : goal.invariant-loop-i
invariant-loop-i l =
    let d = l.ring.xy.now in
    (l.i ≤ corners d) × Grows d (Beside d) (Begun d l.i) l.initial.cells l.cells
