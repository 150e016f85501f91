-- `checker::pieces::Piece::mark_steps`: the steps of the corners that are left are still to be marked.
use Rattle.std.proofs.Common.{◌≡◌}
use Rattle.std.specs.Slice.Iter.{windows_rest, windows_size}
use Rattle.checker.specs.Parts.{stepped}
use Rattle.checker.proofs.pieces.Piece.mark_steps.Given as goal

abbrev pub invariant-loop-step : goal.invariant-loop-step
invariant-loop-step l =
    (stepped l.self.corners.now l.initial.steps ≡ stepped (windows_rest l.step-iterator) l.steps)
    × (windows_size l.step-iterator ≡ 2)
