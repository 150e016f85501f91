-- `marks::walk::Poses::within` meets its contract: the wedges before those that are left are passed.
use Rattle.std.proofs.Common.{rules}
use Rattle.outline.specs.Drawing.{corners}
use Rattle.marks.specs.Lands.{Lands}
use Rattle.marks.specs.Parts.{point, wedge_of, Tried, piece_fan, Gives}
use Rattle.marks.proofs.Fans.{PassedBy, passed_none, wedge_below, passed_more, passed_hit, passed_all}
use Rattle.marks.proofs.Finding.{callable, finds}
use Rattle.marks.proofs.walk.Poses.within.Goals as goal

pub find_map-requires-clause-callable : goal.find_map-requires-clause-callable
find_map-requires-clause-callable c =
    let s = c.args.self.now in
    callable Gives _ _
    (PassedBy s.first.now s.second.now (point s.mark) (corners s.first.now) c.args.piece.now)
    (λ w r. Tried s.first.now s.second.now (point s.mark) (wedge_of w) r)
    (λ x r q k. search rules)
    (λ a w b p g h. passed_more _ _ _ a b w p g h)
    _ (passed_none _ _ _ c.of.result c.requires c.of.ensures)
    (λ a w b p g. let below = wedge_below _ _ _ a b w p g in search rules)

pub returns : goal.returns
returns c =
    let s = c.args.self.now in
    finds Gives _ _
    (PassedBy s.first.now s.second.now (point s.mark) (corners s.first.now) c.args.piece.now)
    (λ w r. Tried s.first.now s.second.now (point s.mark) (wedge_of w) r)
    (λ x r q k. search rules)
    (λ a w b p g h. passed_more _ _ _ a b w p g h)
    (Lands s.first.now s.second.now (point s.mark) (piece_fan c.args.piece.now))
    (λ a w b P p g h. passed_hit _ _ _ a b w p g P h)
    (λ a b p e. passed_all _ _ _ p e)
    _ _ _ (passed_none _ _ _ c.of.result c.requires c.of.ensures) c.find_map.ensures.ran c.find_map.ensures.runs
