-- `checker::nested::Marked::mark_all`: the pieces that are left are still to be marked.
use Rattle.checker.specs.Parts.{as_entry}
use Rattle.checker.proofs.Passes.{marked_fails, marked_more, marked_end}
use Rattle.checker.proofs.nested.Marked.mark_all.Goals as goal

pub returns-then-not-mark : goal.returns-then-not-mark
returns-then-not-mark c =
    let p = c.in-Some.piece in
    marked_fails c.loop-piece.invariant.2 (as_entry p) _ c.in-Some.ensures.steps c.mark.ensures
    c.if-not-mark.true

pub loop-piece-preserved : goal.loop-piece-preserved
loop-piece-preserved c =
    let p = c.in-Some.piece in (
      tt,
      tt,
      marked_more c.loop-piece.invariant.2 (as_entry p) _ c.in-Some.ensures.steps c.mark.ensures
          c.if-not-mark.false,
    )

pub returns : goal.returns
returns c = marked_end c.loop-piece.invariant.2 c.in-None.ensures.steps.0
