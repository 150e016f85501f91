-- `Tables::earlier`: which comes first is decided by what is left from c on.
use mathlib.Core.Path.{◌≡◌}
use Prim.Native.Nat.{◌≤◌, ◌-◌}
use Rattle.rules.specs.Choice.{less}
use Rattle.cutting.specs.Tracing.{rest_in}
use Rattle.cutting.proofs.lines.Tables.earlier.Given as goal

abbrev pub invariant-loop-c : goal.invariant-loop-c
invariant-loop-c l =
    (l.c ≤ l.j) ×
    (less (rest_in l.self.val l.self.left l.col l.x l.j l.i) (rest_in l.self.val l.self.left l.col l.y l.j l.i) ≡
    less (rest_in l.self.val l.self.left l.col l.x l.j l.c) (rest_in l.self.val l.self.left l.col l.y l.j l.c))

abbrev pub decreases-loop-c : goal.decreases-loop-c
decreases-loop-c l = l.j - l.c
