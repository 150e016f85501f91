-- A word tells a number of 8 bits.
use Rattle.std.proofs.Common.{rules}
use Rattle.recorded.specs.Decimals.{byte}
use Rattle.recorded.proofs.numbers.U8Number.tell.Goals as goal

pub returns-in_err-tell : goal.returns-in_err-tell
unfolding byte
returns-in_err-tell c = search rules

pub returns : goal.returns
unfolding byte
returns c = search rules
