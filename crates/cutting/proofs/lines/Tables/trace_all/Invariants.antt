-- `Tables::trace_all`: the ranges to a corner from j on have been met.
use Rattle.limits.specs.Limits.{row}
use Rattle.cutting.specs.Held.{TracingAt}
use Rattle.cutting.proofs.lines.Tables.trace_all.Given as goal

abbrev pub invariant-loop-j : goal.invariant-loop-j
invariant-loop-j l = TracingAt l.readings l.self l.pairs row l.j
