-- `lanes::begin`: the lanes below x are the veil's.
use native.Mathlib.Omega.{arith}
use Rattle.cutting.proofs.Rows.{begins_none, begins_more, begins_end}
use Rattle.cutting.proofs.lanes.begin.Goals as goal

pub loop-x-init : goal.loop-x-init
loop-x-init c = (omega arith, begins_none)

pub loop-x-preserved : goal.loop-x-preserved
loop-x-preserved c =
    let loop = c.loop-x in (
      omega arith,
      begins_more loop.invariant.1 loop.invariant.0 (omega arith) (omega arith) c.cell.ensures
          c.put.ensures,
    )

pub returns : goal.returns
returns c = begins_end c.loop-x.invariant.1 (omega arith)
