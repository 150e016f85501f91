-- `Tables::lowest`: what is found fits, and what is passed does not.
use mathlib.Core.Path.{◌≡◌}
use mathlib.Core.Bool.{true, false}
use native.Mathlib.Omega.{arith}
use Rattle.std.proofs.Common.{rules, tests}
use Rattle.std.proofs.lemmas.Iterator.{first_from_Range}
use Rattle.cutting.specs.Tracing.{fits_in}
use Rattle.cutting.proofs.Corners.{lowest_found}
use Rattle.cutting.proofs.lines.Tables.lowest.Goals as goal

pub returns : goal.returns
returns c =
    let val = c.args.self.now.val in
    let left = c.args.self.now.left in
    let right = c.args.self.now.right in
    lowest_found val left right c.args.i c.args.j c.find.result (omega arith) c.unwrap_or.ensures
    (first_from_Range _ _ _ _ (λ y. fits_in val left right c.args.i c.args.j y ≡ true)
    (λ y. fits_in val left right c.args.i c.args.j y ≡ false) c.find.ensures.ran
    (λ x q k. search (rules, tests)) (λ x q k. search (rules, tests)))
