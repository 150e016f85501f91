-- `Tables::trace_column`: the ranges to j from below i have been met.
use Rattle.cutting.specs.Held.{TracingAt}
use Rattle.cutting.proofs.lines.Tables.trace_column.Given as goal

abbrev pub invariant-loop-i : goal.invariant-loop-i
invariant-loop-i l = TracingAt l.readings l.self l.pairs l.i l.j
