-- `Sights::lowest`: the first corner that passes, or 0, as `rules` has it.
use Rattle.std.proofs.Common.{rules, tests, ℕ, Bool, ◌∙◌}
use Rattle.std.proofs.lemmas.Iterator.{YieldsList-from_slice}
use Rattle.std.proofs.lemmas.Iterator.Consumers.{YieldsList-from_copied}
use Rattle.std.proofs.lemmas.Iterator.Search.{find_from_yields_List}
use Rattle.rules.specs.Cells.{both_see}
use Rattle.rules.specs.Lays.{all}
use Rattle.telling.proofs.Corners.{found_first}
use Rattle.telling.proofs.centres.Sights.lowest.Goals as goal

pub returns : goal.returns
returns c =
    let s = c.args.self.now in
    let S = c.args.piece.now in
    let p : ℕ → Bool = λ x. all (both_see s.first.now s.second.now x) S in
    let e = find_from_yields_List p _ _ c.find.result c.find.ensures.ran
    (YieldsList-from_copied (YieldsList-from_slice S (search rules))) (λ x b q k. search (rules, tests)) in
    c.unwrap_or.ensures ∙ found_first p S c.find.result e
