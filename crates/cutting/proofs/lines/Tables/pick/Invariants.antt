-- `Tables::pick`: best is the pick of the centres below x.
use mathlib.Core.Path.{◌≡◌}
use Prim.Native.Nat.{◌-◌, ◌≤◌}
use Rattle.rules.specs.Cutting.{one}
use Rattle.rules.specs.Choice.{pick_from}
use Rattle.rules.specs.Cells.{cell}
use Rattle.cutting.specs.Rows.{none}
use Rattle.std.specs.Prelude.{IfSome}
use Rattle.cutting.specs.Tracing.{or_row}
use Rattle.cutting.proofs.lines.Tables.pick.Given as goal

abbrev pub invariant-loop-x : goal.invariant-loop-x
invariant-loop-x l =
    IfSome l.best (λ y. y ≤ l.j) ×
    (or_row l.best ≡
    pick_from none one (cell l.self.val) (cell l.self.left) (cell l.col) (cell l.self.right l.j) l.i l.j (l.x - l.i))
