-- `checker::of_bytes`: a law for each return.
use Rattle.outline.specs.Tells.{if_yes}
use Rattle.checker.proofs.Verdicts.{no_cutting, first_at_fault}
use Rattle.checker.proofs.of_bytes.Goals as goal

pub returns-then-not-is_cutting : goal.returns-then-not-is_cutting
returns-then-not-is_cutting c =
    let s = c.args.sights.now in
    let l = if_yes c.is_list.ensures c.if-not-is_list.false in
    no_cutting s.first.now s.second.now l c.is_cutting.ensures c.if-not-is_cutting.true

pub returns : goal.returns
returns c =
    let s = c.args.sights.now in
    let l = if_yes c.is_list.ensures c.if-not-is_list.false in
    first_at_fault s.first.now s.second.now l c.is_cutting.ensures c.if-not-is_cutting.false c.first_fault.ensures
