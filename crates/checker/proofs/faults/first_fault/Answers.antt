-- `checker::faults::first_fault`: the pieces before those that are left have no fault.
use Rattle.std.proofs.lemmas.Result.{err_from_is_err_and}
use Rattle.checker.specs.Parts.{as_entry}
use Rattle.checker.proofs.Reading.{walk_next}
use Rattle.checker.proofs.Passes.{fault_found, fault_more, fault_none}
use Rattle.checker.proofs.faults.first_fault.Goals as goal

pub fault-requires : goal.fault-requires
fault-requires c = let s = c.in-Some.ensures.steps in (walk_next c.loop-place.invariant.2 s.0).corners

pub loop-place-preserved : goal.loop-place-preserved
loop-place-preserved c =
    let p = c.in-Some.piece in
    let s = c.in-Some.ensures.steps in
    let of = c.args.sights.now in (
      c.in-Some.ensures.goes.keeps,
      tt,
      fault_more of.first.now of.second.now c.loop-place.invariant.2 (as_entry p) _ s.0 s.1
          c.in_ok-fault.ensures s.2,
    )

pub returns-in_err-fault : goal.returns-in_err-fault
returns-in_err-fault c =
    let p = c.in-Some.piece in
    let s = c.in-Some.ensures.steps in
    let of = c.args.sights.now in
    let e = err_from_is_err_and c.from_residual.result c.from_residual.ensures.1 in
    rw (e.1, e.2)
    (fault_found of.first.now of.second.now c.loop-place.invariant.2 (as_entry p) _ s.0 s.1
    _ c.in_err-fault.ensures)

pub returns : goal.returns
returns c =
    let s = c.in-None.ensures.steps in
    fault_none c.args.sights.now.first.now c.args.sights.now.second.now c.loop-place.invariant.2 s.0.0
