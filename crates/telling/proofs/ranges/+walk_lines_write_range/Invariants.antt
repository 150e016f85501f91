-- `ranges::write_range` and `ranges::walk_lines`, which call each other. What falls is the width of the range: from i
-- to j, or from the first corner of its piece to the last.
use Prim.Native.Nat.{◌+◌, ◌-◌, ◌*◌}
use Rattle.std.specs.Slice.Iter.{iter_rest}
use Rattle.telling.proofs.Lines.{Walked}
use Rattle.telling.specs.Parts.{first_of, last_of}
use Rattle.telling.proofs.ranges.+walk_lines_write_range.Given as goal

abbrev pub decreases-walk_lines : goal.decreases-walk_lines
decreases-walk_lines l = 2 * (last_of l.corners.now - first_of l.corners.now)

abbrev pub decreases-write_range : goal.decreases-write_range
decreases-write_range l = 2 * (l.j - l.i) + 1

abbrev pub invariant-walk_lines-loop-c : goal.invariant-walk_lines-loop-c
invariant-walk_lines-loop-c l =
    Walked l.pairs l.initial.out (first_of l.corners) (last_of l.corners) (iter_rest l.c-iterator.a)
    (iter_rest l.c-iterator.b) l.out l.past
