-- `drawing::segment::an_end_on` meets its contract.
use mathlib.Core.Path.{refl}
use Rattle.drawing.proofs.Machine.{by_le_nought, or_first, or_second}
use Rattle.drawing.proofs.segment.an_end_on.Goals as goal

pub returns-then-dot-le0 : goal.returns-then-dot-le0
returns-then-dot-le0 c = or_first (by_le_nought c.dot.type_inv c.dot.ensures) refl c.if-dot-le0.true

pub returns-else-dot-le0 : goal.returns-else-dot-le0
returns-else-dot-le0 c =
    let other = c.dot-else-dot-le0 in
    or_second (by_le_nought c.dot.type_inv c.dot.ensures) (by_le_nought other.type_inv other.ensures) refl
    c.if-dot-le0.false
