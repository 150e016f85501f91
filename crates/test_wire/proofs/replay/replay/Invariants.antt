-- What was met lies within the expected output.
use Rattle.std.proofs.Common.{◌≤◌, length}
use Rattle.test_wire.proofs.replay.replay.Given as goal

abbrev pub invariant-loop-chunk : goal.invariant-loop-chunk
invariant-loop-chunk l =
    (goal.iterator-loop-chunk).can_next l.chunk-iterator
    × (goal.iterator-loop-chunk).is_finite l.chunk-iterator
    × (l.met ≤ length l.expected)
