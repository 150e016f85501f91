-- `checker::pieces::Piece::centre_sees`: each corner is tested.
use Rattle.std.proofs.Common.{rules, ◌≡◌, true, false}
use Rattle.std.proofs.lemmas.Iterator.{cases_from_all, YieldsList-from_slice}
use Rattle.rules.specs.Cells.{centre_sees}
use Rattle.checker.specs.Parts.{as_entry}
use Rattle.checker.proofs.Along.{all_is}
use Rattle.checker.proofs.Tests.{told_by, centre_tells}
use Rattle.checker.proofs.pieces.Piece.centre_sees.Goals as goal

pub returns : goal.returns
returns c =
    let s = c.args.self.now in
    let p = centre_sees c.args.sight.now s.centre in
    told_by
    (all_is p s.corners.now c.all.result
    (cases_from_all _ _ _ (λ x. true ≡ p x) (λ x. false ≡ p x) c.all.ensures.ran
    (YieldsList-from_slice s.corners.now cc) (λ x q k. search rules) (λ x q k. search rules)))
    (centre_tells c.args.sight.now (as_entry s))
