-- `drawing::seeing::touched` meets its contract.
use mathlib.Core.Path.{sym, subst}
use Rattle.outline.specs.Tells.{if_yes, if_no}
use Rattle.outline.specs.Way.{GrazedBy}
use Rattle.drawing.specs.Grazing.{touched_here, touched_there}
use Rattle.drawing.proofs.seeing.touched.Goals as goal

pub returns-then-lies_on : goal.returns-then-lies_on
returns-then-lies_on c =
    let h = c.requires in
    touched_here _ c.args.ring.sound.simple _ _ _ h.corners.0 h.corners.1 h.touched.0 h.touched.1
    (if_yes c.lies_on.ensures c.if-lies_on.true)

pub returns-else-lies_on : goal.returns-else-lies_on
returns-else-lies_on c =
    let h = c.requires in
    subst (λ m. GrazedBy c.args.ring.xy.now c.args.i c.args.j m) (sym c.next.ensures.is)
    (touched_there _ c.args.ring.sound.simple _ _ _ h.corners.0 h.corners.1 h.touched.0 h.touched.1
    (if_no c.lies_on.ensures c.if-lies_on.false))
