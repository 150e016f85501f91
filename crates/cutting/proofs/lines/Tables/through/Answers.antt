-- `Tables::through`: the least of the centres before x.
use native.Mathlib.Omega.{arith}
use Rattle.cutting.proofs.Rows.{least_none, least_more, least_to}
use Rattle.cutting.proofs.lines.Tables.through.Goals as goal

pub loop-x-init : goal.loop-x-init
loop-x-init c = least_none

pub loop-x-preserved : goal.loop-x-preserved
loop-x-preserved c =
    least_more c.loop-x.invariant (omega arith)
    (omega (arith, c.saturating_add.ensures, c.cell.ensures, c.cell-in-loop-x.ensures)) c.min-m.ensures

pub returns : goal.returns
returns c = least_to c.loop-x.invariant (omega arith)
