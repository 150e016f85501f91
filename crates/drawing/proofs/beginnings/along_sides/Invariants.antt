-- `drawing::beginnings::along_sides` meets its contract: the sides whose marks are passed are told.
use mathlib.Core.Path.{◌≡◌}
use Rattle.whole.specs.Masks.{Scan}
use Rattle.drawing.specs.Table.{Begun, Grows}
use Rattle.drawing.proofs.Begun.{RowBegunTo}
use Rattle.drawing.proofs.beginnings.along_sides.Given as goal

abbrev pub invariant-loop-k : goal.invariant-loop-k
invariant-loop-k l = record {
  can_next : (goal.iterator-loop-k).can_next l.k-iterator;
  is_finite : (goal.iterator-loop-k).is_finite l.k-iterator;
  scan : Scan l.along l.k-iterator.0 (λ k. k ≡ k);
  grown : let d = l.ring.xy.now in Grows d (Begun d l.i) (RowBegunTo d l.i l.k-iterator.0) l.initial.cells l.cells;
}
