-- The buffer as it was lent, and what the call left of its front.
use Rattle.std.proofs.Common.{rules, arith}
use Rattle.std.proofs.lemmas.Grind.{common_steps}
use Rattle.trials.proofs.held.held.Goals as goal
use Rattle.trials.proofs.held.held.Goals.{then-is_some_and, else-is_some_and}

pub returns : goal.returns
returns g c = record {
  got = c.answer-got.result;
  buffer = c.fill.new.buffer;
  left = c.answer-got.new.arg2;
  unwritten_before = record {
    size = search rules;
    each = λ k h. c.fill.ensures.each k (search rules);
  };
  gives = search rules;
  is_right = elim c.if-is_some_and.branch [
    | then-is_some_and w ↦ grind (arith, common_steps)
    | else-is_some_and w ↦ grind (arith, common_steps)
  ];
}
