-- Each case takes a byte at least.
use Rattle.std.proofs.Common.{length, ◌+◌, ◌≤◌}
use Rattle.test_wire.proofs.packed.cases.Given as goal

abbrev pub invariant-loop-rest : goal.invariant-loop-rest
invariant-loop-rest g l =
    (l.tally.count + length l.rest ≤ length l.packed) × (l.tally.differences ≤ l.tally.count)

abbrev pub decreases-loop-rest : goal.decreases-loop-rest
decreases-loop-rest g l = length l.rest
