-- `Tables::trace`: from the whole range alone to the cutting.
use native.Mathlib.Omega.{arith}
use Rattle.cutting.proofs.Finds.{traceable, drawn}
use Rattle.cutting.proofs.lines.Tables.trace.Goals as goal

pub trace_all-requires : goal.trace_all-requires
trace_all-requires c = traceable c.args.readings.now.veils c.requires c.start.ensures

pub returns : goal.returns
returns c = drawn c.trace_all.ensures (omega arith) c.put.ensures
