-- `drawing::segment::touch` meets its contract.
use mathlib.Core.Path.{refl}
use Rattle.drawing.proofs.Machine.{or_first, or_second}
use Rattle.drawing.proofs.segment.touch.Goals as goal

pub returns-then-an_end_on : goal.returns-then-an_end_on
returns-then-an_end_on c = or_first c.an_end_on.ensures refl c.if-an_end_on.true

pub returns-else-an_end_on : goal.returns-else-an_end_on
returns-else-an_end_on c = or_second c.an_end_on.ensures c.an_end_on-else-an_end_on.ensures refl c.if-an_end_on.false
