-- `tracing::tick`: a side is left out.
use native.Mathlib.Omega.{arith}
use Rattle.cutting.proofs.Marking.{ticked_none, ticked_set}
use Rattle.cutting.proofs.tracing.tick.Goals as goal

pub returns-then-d-c : goal.returns-then-d-c
returns-then-d-c c =
    let pre = c.requires in
    ticked_set (omega arith) pre.2 pre.0 c.put.ensures

pub returns-else-d-c : goal.returns-else-d-c
returns-else-d-c c = ticked_none (omega arith) c.requires.0
