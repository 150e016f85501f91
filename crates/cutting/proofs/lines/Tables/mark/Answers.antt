-- `Tables::mark`: the lines before c are in the set.
use native.Mathlib.Omega.{arith}
use Rattle.rules.specs.Follow.{rest_end}
use Rattle.cutting.proofs.Marking.{marking_none, marking_more, marking_end}
use Rattle.cutting.proofs.lines.Tables.mark.Goals as goal

pub loop-c-init : goal.loop-c-init
loop-c-init c = (omega arith, omega arith, marking_none c.requires.3)

pub next-d-requires : goal.next-d-requires
next-d-requires c = (c.requires.0, omega arith, c.requires.2)

pub tick-requires : goal.tick-requires
tick-requires c = (
  c.loop-c.invariant.2.ticks,
  omega (arith, c.next-d.ensures.after, c.loop-c.invariant.0),
  omega (arith, c.next-d.ensures.within, c.requires.2),
)

pub loop-c-smaller : goal.loop-c-smaller
loop-c-smaller c =
    omega (arith, c.next-d.ensures.after, c.next-d.ensures.within)

pub loop-c-preserved : goal.loop-c-preserved
loop-c-preserved c =
    let loop = c.loop-c in (
      omega (arith, c.next-d.ensures.after),
      omega (arith, c.next-d.ensures.within),
      marking_more _ c.next-d.ensures.rest (omega arith) c.tick.ensures loop.invariant.2,
    )

pub returns : goal.returns
returns c = marking_end (rest_end _ _ _ _ _ _ _ _ (omega arith)) c.loop-c.invariant.2
