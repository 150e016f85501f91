-- `drawing::table::rows` meets its contract: the pairs of the corners before i, with every corner, are decided; and of
-- corner i those whose marks are passed.
use mathlib.Core.Path.{◌≡◌}
use Prim.Native.Nat.{◌≤◌}
use Rattle.whole.specs.Masks.{Scan}
use Rattle.outline.specs.Drawing.{corners}
use Rattle.drawing.specs.Table.{Early, RowsDone, Grows}
use Rattle.drawing.proofs.Rows.{RowDone}
use Rattle.drawing.proofs.table.rows.Given as goal

abbrev pub invariant-loop-k : goal.invariant-loop-k
invariant-loop-k l = record {
  can_next : (goal.iterator-loop-k).can_next l.k-iterator;
  is_finite : (goal.iterator-loop-k).is_finite l.k-iterator;
  scan : Scan l.initial.k-iterator.0 l.k-iterator.0 (λ k. k ≡ k);
  grown : let d = l.ring.xy.now in Grows d (RowsDone d l.i) (RowDone d l.i l.k-iterator.0) l.initial.cells l.cells;
}

abbrev pub invariant-loop-i : goal.invariant-loop-i
invariant-loop-i l =
    let d = l.ring.xy.now in
    (l.i ≤ corners d) × Grows d (Early d) (RowsDone d l.i) l.initial.cells l.cells
