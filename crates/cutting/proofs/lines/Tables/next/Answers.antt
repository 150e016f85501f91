-- `Tables::next`: what is found on the road to x, or to j.
use native.Mathlib.Omega.{arith}
use Rattle.cutting.proofs.Corners.{found_left, found_right}
use Rattle.cutting.proofs.lines.Tables.next.Goals as goal

pub returns-then-c-x : goal.returns-then-c-x
returns-then-c-x c = found_left c.requires.0 c.if-c-x.true c.seek.ensures

pub returns-else-c-x : goal.returns-else-c-x
returns-else-c-x c = found_right c.requires.0 c.requires.1 (omega arith) c.seek-else-c-x.ensures
