-- `Sights::sees_all`: the test of all corners, as `rules` has it.
use Rattle.std.proofs.Common.{rules, tests, ◌∙◌}
use Rattle.std.proofs.lemmas.Iterator.{YieldsList-from_slice}
use Rattle.std.proofs.lemmas.Iterator.Search.{all_from_yields_List}
use Rattle.rules.specs.Cells.{both_see}
use Rattle.telling.proofs.Corners.{all_is}
use Rattle.telling.proofs.centres.Sights.sees_all.Goals as goal

pub returns : goal.returns
returns c =
    let s = c.args.self.now in
    let p = both_see s.first.now s.second.now c.args.x in
    all_from_yields_List p _ _ _ c.all.ensures.ran (YieldsList-from_slice c.args.piece.now (search rules))
    (λ x b q k. search (rules, tests))
    ∙ all_is p c.args.piece.now
