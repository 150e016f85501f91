-- `Tables::column`: the lines that start at i or later are done.
use native.Mathlib.Omega.{arith}
use Rattle.cutting.proofs.Fill.{filling_begun, filling_at, filled_more}
use Rattle.cutting.proofs.lines.Tables.column.Goals as goal

pub loop-i-init : goal.loop-i-init
loop-i-init c =
    filling_begun c.requires.in_range c.requires.filled c.begin.ensures (omega arith) c.cell.ensures
    c.put.ensures c.cell-2.ensures c.put-2.ensures

pub line-requires : goal.line-requires
line-requires c = record {
  in_range = (omega arith, c.requires.in_range);
  filling = filling_at (omega arith) c.loop-i.invariant;
}

pub returns : goal.returns
returns c = filled_more (omega arith) c.loop-i.invariant
