-- `Tables::pick`: best is the pick of the centres below x.
use native.Mathlib.Omega.{arith}
use Rattle.cutting.proofs.Corners.{pick_none, pick_more, pick_end}
use Rattle.cutting.proofs.lines.Tables.pick.Goals as goal

pub loop-x-init : goal.loop-x-init
loop-x-init c = (tt, pick_none _ _ _ _ _ _)

pub loop-x-preserved : goal.loop-x-preserved
loop-x-preserved c = (
  c.choose-best.ensures.centre,
  pick_more _ _ _ _ _ _ (omega arith) c.loop-x.invariant.1 c.choose-best.ensures.better,
)

pub returns : goal.returns
returns c = pick_end _ _ _ _ _ _ c.requires.0 c.loop-x.invariant.1 (omega arith)
