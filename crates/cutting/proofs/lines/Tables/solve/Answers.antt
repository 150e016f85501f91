-- `Tables::solve`: the lines to a corner below j are done.
use native.Mathlib.Omega.{arith}
use Rattle.cutting.proofs.Fill.{filled_none, filled_at}
use Rattle.cutting.proofs.lines.Tables.solve.Goals as goal

pub loop-j-init : goal.loop-j-init
loop-j-init c = filled_none (omega arith) (omega arith) (omega arith)

pub column-requires : goal.column-requires
column-requires c = record {
  in_range = omega (arith, c.args.readings.now.most);
  filled = c.loop-j.invariant;
}

pub returns : goal.returns
returns c = filled_at (omega arith) c.loop-j.invariant
