-- `Tables::mark`: the lines before c are in the set.
use Prim.Native.Nat.{◌≤◌, ◌-◌}
use Rattle.cutting.specs.Tracing.{rest_in}
use Rattle.cutting.proofs.Marking.{Marking}
use Rattle.cutting.proofs.lines.Tables.mark.Given as goal

abbrev pub invariant-loop-c : goal.invariant-loop-c
invariant-loop-c l =
    (l.i ≤ l.c) × (l.c ≤ l.j) ×
    Marking l.initial.pairs l.pairs l.i (rest_in l.self.val l.self.left l.col l.x l.j l.i) l.c
    (rest_in l.self.val l.self.left l.col l.x l.j l.c)

abbrev pub decreases-loop-c : goal.decreases-loop-c
decreases-loop-c l = l.j - l.c
