-- `drawing::seeing::meet_side` meets its contract.
use mathlib.Core.Path.{◌≡◌, ap, ◌∙◌}
use Rattle.outline.specs.Drawing.{corner, after}
use Rattle.drawing.specs.Parts.{point}
use Rattle.drawing.specs.Looking.{open_reached}
use Rattle.drawing.proofs.Machine.{reached_as, meets_as}
use Rattle.drawing.proofs.seeing.meet_side.Goals as goal

pub meet-requires : goal.meet-requires
meet-requires c =
    let d-is : let s = c.args in
    point c.corner-d.result ≡ corner s.ring.xy.now (after s.ring.xy.now s.k) =
    c.corner-d.ensures.is ∙ ap (corner c.args.ring.xy.now) c.next-m.ensures.is in
    record {
      close = (
        c.corner-a.ensures.close,
        c.corner-b.ensures.close,
        c.corner-c.ensures.close,
        c.corner-d.ensures.close,
      );
      reached = reached_as c.corner-a.ensures.is c.corner-b.ensures.is c.corner-c.ensures.is d-is
          (open_reached c.args.ring.xy.now c.args.i c.args.j c.args.k c.requires.open);
    }

pub returns : goal.returns
returns c =
    let d-is : let s = c.args in
    point c.corner-d.result ≡ corner s.ring.xy.now (after s.ring.xy.now s.k) =
    c.corner-d.ensures.is ∙ ap (corner c.args.ring.xy.now) c.next-m.ensures.is in
    meets_as c.corner-a.ensures.is c.corner-b.ensures.is c.corner-c.ensures.is d-is
    c.meet.result c.meet.ensures
