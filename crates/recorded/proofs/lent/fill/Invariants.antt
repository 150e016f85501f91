-- `lent::fill` meets its contract: the bytes so far are written.
use Rattle.std.proofs.Common.{◌≡◌, ℕ, ◌<◌, get_or}
use Rattle.recorded.specs.Lent.{unwritten}
use Rattle.recorded.proofs.lent.fill.Given as goal

abbrev pub invariant-loop-i : goal.invariant-loop-i
invariant-loop-i l = (k : ℕ) → k < l.i → get_or l.buffer k 0 ≡ unwritten k
