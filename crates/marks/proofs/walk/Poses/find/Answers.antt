-- `marks::walk::Poses::find` meets its contract: the pieces before those that are left are passed.
use Rattle.std.proofs.Common.{rules}
use Rattle.std.specs.Prelude.{option_map}
use Rattle.outline.specs.Drawing.{corners}
use Rattle.marks.specs.Lands.{Lands}
use Rattle.marks.specs.Parts.{point, piece_fan, Takes, Finds}
use Rattle.marks.proofs.Answers.{PassedTo, passed_no_piece, taken_piece, taken_hit, taken_missed, pieces_passed}
use Rattle.marks.proofs.Finding.{callable, finds}
use Rattle.marks.proofs.walk.Poses.find.Goals as goal

pub find_map-requires-clause-can : goal.find_map-requires-clause-can
find_map-requires-clause-can c = record { n = corners c.args.self.now.first.now; read = c.requires }

pub find_map-requires-clause-callable : goal.find_map-requires-clause-callable
find_map-requires-clause-callable c =
    let s = c.args.self.now in
    let m = point s.mark in
    callable (λ a r b. Takes a.told.now (option_map (λ x. x.now) r) b.told.now) _ _
    (λ a. PassedTo s.first.now s.second.now m c.args.told.now a.told.now)
    (λ x r. Lands s.first.now s.second.now m (piece_fan x.now) r)
    (λ x r q k. search rules)
    (λ a x b p k h. taken_missed _ _ _ _ a.told.now x.now b.told.now k p h)
    _ (passed_no_piece _ _ _ c.requires)
    (λ a x b p k. let piece = taken_piece _ _ _ _ a.told.now x.now b.told.now k p in search rules)

pub returns : goal.returns
returns c =
    let s = c.args.self.now in
    let m = point s.mark in
    finds (λ a r b. Takes a.told.now (option_map (λ x. x.now) r) b.told.now) _ _
    (λ a. PassedTo s.first.now s.second.now m c.args.told.now a.told.now)
    (λ x r. Lands s.first.now s.second.now m (piece_fan x.now) r)
    (λ x r q k. search rules)
    (λ a x b p k h. taken_missed _ _ _ _ a.told.now x.now b.told.now k p h)
    (Finds s.first.now s.second.now m c.args.told.now)
    (λ a x b P p k h. taken_hit _ _ _ _ a.told.now x.now b.told.now k p P h)
    (λ a b p e. pieces_passed _ _ _ e.0 p)
    (record { told = c.args.told }) c.find_map.new.self c.find_map.result (passed_no_piece _ _ _ c.requires)
    c.find_map.ensures.ran c.find_map.ensures.runs
