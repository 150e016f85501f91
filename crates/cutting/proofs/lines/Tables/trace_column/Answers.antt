-- `Tables::trace_column`: the ranges to j from below i have been met.
use native.Mathlib.Omega.{arith}
use Rattle.cutting.proofs.Traced.{tracing_open, tracing_close}
use Rattle.cutting.proofs.lines.Tables.trace_column.Goals as goal

pub loop-i-init : goal.loop-i-init
loop-i-init c = tracing_open c.requires.tracing

pub visit-requires : goal.visit-requires
visit-requires c = record { in_range = (omega arith, c.requires.in_range); tracing = c.loop-i.invariant }

pub returns : goal.returns
returns c = tracing_close (omega arith) c.loop-i.invariant
