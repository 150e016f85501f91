-- `checker::faults::first_fault`: the pieces before those that are left have no fault.
use Rattle.std.specs.Iterator.Adapters.{enumerate_source, enumerate_count}
use Rattle.checker.specs.Parts.{in_cells}
use Rattle.checker.proofs.Reading.{Walk}
use Rattle.checker.proofs.Passes.{NoFault}
use Rattle.checker.proofs.faults.first_fault.Given as goal

abbrev pub invariant-loop-place : goal.invariant-loop-place
invariant-loop-place l =
    (goal.iterator-loop-place).can_next l.place-iterator × (goal.iterator-loop-place).is_finite l.place-iterator
    × Walk l.list
    (NoFault (in_cells l.sights.first.now) (in_cells l.sights.second.now) (enumerate_count l.place-iterator))
    (enumerate_source l.place-iterator).rest.now
