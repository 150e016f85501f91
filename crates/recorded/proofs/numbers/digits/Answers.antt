-- `numbers::digits` meets its contract.
use Rattle.std.proofs.Common.{rules, ◌∙◌}
use Rattle.recorded.proofs.Reading.{no_digit}
use Rattle.recorded.proofs.numbers.digits.Goals as goal

pub returns-in_err-m : goal.returns-in_err-m
returns-in_err-m c =
    let l = c.loop-c in
    c.from_residual.ensures ∙ no_digit c.args.word.now _ l.m c.loop-c-test.true l.invariant (search rules)
