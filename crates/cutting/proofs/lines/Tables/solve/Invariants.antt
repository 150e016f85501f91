-- `Tables::solve`: the lines to a corner below j are done.
use Rattle.cutting.specs.Held.{FilledTo}
use Rattle.cutting.proofs.lines.Tables.solve.Given as goal

abbrev pub invariant-loop-j : goal.invariant-loop-j
invariant-loop-j l = FilledTo l.readings l.self l.j
