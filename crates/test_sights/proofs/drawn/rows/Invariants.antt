-- The rows that are left have room for what is not counted yet.
use Rattle.std.proofs.Common.{◌≤◌, ◌≡◌, ◌+◌, length}
use Rattle.std.specs.Iterator.Adapters.{take_source}
use Rattle.std.specs.Slice.Iter.{chunks_exact_mut_rest, chunks_exact_mut_size}
use Rattle.limits.specs.Limits.{all_cells, row}
use Rattle.test_sights.proofs.drawn.rows.Given as goal

abbrev pub invariant-loop-told : goal.invariant-loop-told
invariant-loop-told l =
    let chunks = take_source l.told-iterator in
    (goal.iterator-loop-told).can_next l.told-iterator
    × (goal.iterator-loop-told).is_finite l.told-iterator
    × (chunks_exact_mut_size chunks ≡ row)
    × (l.cells + length (chunks_exact_mut_rest chunks) ≤ all_cells)
