-- `drawing::segment::far_apart` meets its contract.
use mathlib.Core.Path.{refl}
use Rattle.outline.specs.Tells.{Tells}
use Rattle.outline.specs.FarApart.{Beyond}
use Rattle.drawing.proofs.Machine.{the_x, the_y, or_first, or_second}
use Rattle.drawing.proofs.segment.far_apart.Goals as goal

pub returns-then-beyond : goal.returns-then-beyond
returns-then-beyond c =
    let by-x : let p = c.args in
    Tells c.beyond.result (Beyond p.a.x p.b.x p.c.x p.d.x) =
    let h = c.requires in
    rw ((the_x h.0).is, (the_x h.1).is, (the_x h.2).is, (the_x h.3).is) at c.beyond.ensures in
    or_first by-x refl c.if-beyond.true

pub returns-else-beyond : goal.returns-else-beyond
returns-else-beyond c =
    let by-x : let p = c.args in
    Tells c.beyond.result (Beyond p.a.x p.b.x p.c.x p.d.x) =
    let h = c.requires in
    rw ((the_x h.0).is, (the_x h.1).is, (the_x h.2).is, (the_x h.3).is) at c.beyond.ensures in
    let by-y : let p = c.args in
    Tells c.beyond-else-beyond.result (Beyond p.a.y p.b.y p.c.y p.d.y) =
    let h = c.requires in
    rw ((the_y h.0).is, (the_y h.1).is, (the_y h.2).is, (the_y h.3).is) at c.beyond-else-beyond.ensures in
    or_second by-x by-y refl c.if-beyond.false
