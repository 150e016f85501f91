-- `drawing::seeing::look_along` meets its contract: no mark passed is a side that hides.
use Rattle.whole.specs.Masks.{Scan}
use Rattle.drawing.specs.Known.{Hides}
use Rattle.drawing.proofs.seeing.look_along.Given as goal

abbrev pub invariant-loop-k : goal.invariant-loop-k
invariant-loop-k l = record {
  can_next : (goal.iterator-loop-k).can_next l.k-iterator;
  is_finite : (goal.iterator-loop-k).is_finite l.k-iterator;
  scan : Scan l.sides l.k-iterator.0 (λ k. ¬ Hides l.ring.xy.now l.i l.j k);
}
