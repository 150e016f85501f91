-- `Tables::trace_all`: the ranges to a corner from j on have been met.
use native.Mathlib.Omega.{arith}
use Rattle.cutting.proofs.Traced.{tracing_at}
use Rattle.cutting.proofs.lines.Tables.trace_all.Goals as goal

pub trace_column-requires : goal.trace_column-requires
trace_column-requires c = record {
  in_range = omega (arith, c.args.readings.now.most);
  tracing = tracing_at (omega arith) c.loop-j.invariant;
}

pub returns : goal.returns
returns c = tracing_at (omega arith) c.loop-j.invariant
