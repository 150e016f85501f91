-- `ranges::furthest`: what is found is the furthest corner that a is joined to by a pair.
use Rattle.std.proofs.Common.{rules, tests, ◌≡◌, true, false, ap}
use Rattle.rules.specs.Cells.{filled}
use Rattle.telling.proofs.Down.{down_found}
use Rattle.telling.proofs.Tellings.{found_after}
use Rattle.telling.proofs.ranges.furthest.Goals as goal

pub returns : goal.returns
returns c =
    let t = c.args.pairs.now in
    let a = c.args.a in
    let found = down_found _ (λ k. filled t a k ≡ true) (λ k. filled t a k ≡ false) (λ x q k. search (rules, tests))
    (λ x q k. search (rules, tests)) c.rev.result _ c.find.result c.find.ensures.ran in
    let source = c.rev.ensures.source in
    found_after t c.requires.0 c.requires.1 (ap (λ r. r.start) source) (ap (λ r. r.end) source)
    c.find.result found c.unwrap_or.ensures
