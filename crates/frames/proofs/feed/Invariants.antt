-- `feed`: what the rest of the chunk does to the reader stays what the whole of it did at first.
use Rattle.std.proofs.Common.{◌≡◌, length, drop}
use Rattle.frames.specs.Reader.{feeds}
use Rattle.frames.proofs.feed.Given as goal

abbrev pub invariant-loop-i : goal.invariant-loop-i
invariant-loop-i l =
    (length l.first ≡ length l.initial.first) × (length l.second ≡ length l.initial.second)
    × (feeds l.r l.first l.second l.i (drop l.i l.chunk) ≡ feeds l.initial.r l.initial.first l.initial.second
    l.from (drop l.from l.chunk))
