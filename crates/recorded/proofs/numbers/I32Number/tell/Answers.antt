-- A word tells a number of 32 bits.
use Rattle.std.proofs.Common.{rules, sym, ap, ◌∙◌}
use Rattle.recorded.specs.Decimals.{above, below}
use Rattle.recorded.proofs.Reading.{minus_is, no_minus_is, below_is}
use Rattle.recorded.proofs.numbers.I32Number.tell.Goals as goal

pub returns-in_err-tell-in-Some : goal.returns-in_err-tell-in-Some
returns-in_err-tell-in-Some c =
    let cases = c.in-Some.ensures.cases in
    c.from_residual.ensures
    ∙ ap below (sym c.in_err-tell-in-Some.was)
    ∙ minus_is c.args.word.now _ c.tell.result cases.0 cases.1 c.tell.ensures

pub returns-in_err-tell-in-None : goal.returns-in_err-tell-in-None
returns-in_err-tell-in-None c =
    c.from_residual-in_err-tell-in-None.ensures
    ∙ ap above (sym c.in_err-tell-in-None.was)
    ∙ no_minus_is c.args.word.now c.tell-in-None.result c.in-None.ensures.cases c.tell-in-None.ensures

pub returns-in_ok-tell-in-Some : goal.returns-in_ok-tell-in-Some
returns-in_ok-tell-in-Some c =
    let cases = c.in-Some.ensures.cases in
    below_is _ _ c.checked_sub_unsigned.ensures
    ∙ ap below (sym c.in_ok-tell-in-Some.was)
    ∙ minus_is c.args.word.now _ c.tell.result cases.0 cases.1 c.tell.ensures

pub returns-in_ok-tell-in-None : goal.returns-in_ok-tell-in-None
returns-in_ok-tell-in-None c =
    search rules
    ∙ ap above (sym c.in_ok-tell-in-None.was)
    ∙ no_minus_is c.args.word.now c.tell-in-None.result c.in-None.ensures.cases c.tell-in-None.ensures
