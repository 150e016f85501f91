-- A word tells a number of 32 bits that is not below zero.
use Rattle.std.proofs.Common.{rules, ◌∙◌}
use Rattle.recorded.proofs.Reading.{natural_is, no_natural}
use Rattle.recorded.proofs.numbers.U32Number.tell.Goals as goal

pub returns-then-is_empty : goal.returns-then-is_empty
returns-then-is_empty c = no_natural c.args.word.now (search rules)

pub returns-else-is_empty : goal.returns-else-is_empty
returns-else-is_empty c = c.digits.ensures ∙ natural_is c.args.word.now (search rules)
