-- `lanes::lower`: the lanes below x are lowered.
use lib.ListN.{length-set}
use native.Mathlib.Omega.{arith}
use Rattle.cutting.proofs.Rows.{sum_is, lows_none, lows_more, lows_end}
use Rattle.cutting.proofs.lanes.lower.Goals as goal

pub loop-x-init : goal.loop-x-init
loop-x-init c = (omega arith, lows_none)

pub loop-x-preserved : goal.loop-x-preserved
loop-x-preserved c =
    let loop = c.loop-x in (
      simp length-set (omega arith),
      lows_more loop.invariant.1 (omega arith) c.cell.ensures (sum_is _ _ c.saturating_add.ensures) c.min.ensures,
    )

pub returns : goal.returns
returns c = lows_end c.loop-x.invariant.1 (omega arith)
