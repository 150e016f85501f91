-- `lanes::finish`: the lanes below x are the row's.
use native.Mathlib.Omega.{arith}
use Rattle.cutting.proofs.Rows.{sum_is, finishes_none, finishes_more, finishes_end}
use Rattle.cutting.proofs.lanes.finish.Goals as goal

pub loop-x-init : goal.loop-x-init
loop-x-init c = (omega arith, finishes_none)

pub loop-x-preserved : goal.loop-x-preserved
loop-x-preserved c =
    let loop = c.loop-x in (
      omega arith,
      finishes_more loop.invariant.1 loop.invariant.0 c.requires.0 c.requires.1 c.loop-x-test.true
          c.cell.ensures (sum_is _ _ c.saturating_add.ensures) c.min-whole.ensures
          c.cell-in-loop-x.ensures (sum_is _ _ c.saturating_add-in-loop-x.ensures) c.put.ensures,
    )

pub returns : goal.returns
returns c = finishes_end c.loop-x.invariant.1 (omega arith)
