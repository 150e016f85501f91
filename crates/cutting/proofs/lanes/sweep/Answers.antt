-- `lanes::sweep`: the corners before b are tried.
use native.Mathlib.Omega.{arith}
use Rattle.cutting.proofs.Rows.{blank, swept_none, swept_more, swept_end}
use Rattle.cutting.proofs.lanes.sweep.Goals as goal

pub loop-b-init : goal.loop-b-init
loop-b-init c = (omega arith, swept_none blank)

pub loop-b-preserved : goal.loop-b-preserved
loop-b-preserved c =
    (omega arith, swept_more c.loop-b.invariant.1 (omega arith) c.cell.ensures c.lower.ensures)

pub returns : goal.returns
returns c = swept_end c.loop-b.invariant.1 (omega arith)
