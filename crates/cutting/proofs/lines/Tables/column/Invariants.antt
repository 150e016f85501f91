-- `Tables::column`: the lines that start at i or later are done.
use Rattle.cutting.specs.Held.{FillingFrom}
use Rattle.cutting.proofs.lines.Tables.column.Given as goal

abbrev pub invariant-loop-i : goal.invariant-loop-i
invariant-loop-i l =
    FillingFrom l.readings l.self l.col l.i l.j
