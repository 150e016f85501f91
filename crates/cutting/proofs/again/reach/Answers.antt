-- `again::reach`: the least of the steps to corners below c.
use native.Mathlib.Omega.{arith}
use Rattle.cutting.proofs.Rows.{sum_is}
use Rattle.cutting.proofs.Relaid.{reaching_none, reaching_more, reaching_end}
use Rattle.cutting.proofs.again.reach.Goals as goal

pub loop-c-init : goal.loop-c-init
loop-c-init c = reaching_none

pub loop-c-preserved : goal.loop-c-preserved
loop-c-preserved c =
    reaching_more c.loop-c.invariant c.cell.ensures (sum_is _ _ c.saturating_add.ensures) c.min-m.ensures

pub returns : goal.returns
returns c = reaching_end c.loop-c.invariant (omega arith)
