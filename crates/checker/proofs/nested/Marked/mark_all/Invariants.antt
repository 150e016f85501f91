-- `checker::nested::Marked::mark_all`: the pieces that are left are still to be marked.
use Rattle.checker.proofs.Reading.{Walk}
use Rattle.checker.proofs.Passes.{Marked}
use Rattle.checker.proofs.nested.Marked.mark_all.Given as goal

abbrev pub invariant-loop-piece : goal.invariant-loop-piece
invariant-loop-piece l =
    (goal.iterator-loop-piece).can_next l.piece-iterator × (goal.iterator-loop-piece).is_finite l.piece-iterator
    × Walk l.list (Marked l.initial.self.closings l.initial.self.steps l.self.closings l.self.steps)
    l.piece-iterator.rest.now
