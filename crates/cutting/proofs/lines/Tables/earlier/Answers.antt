-- `Tables::earlier`: which comes first is decided by what is left from c on.
use mathlib.Core.Path.{refl}
use native.Mathlib.Omega.{arith}
use Rattle.rules.specs.Follow.{rest_end}
use Rattle.cutting.proofs.Corners.{less_on, less_at, less_end}
use Rattle.cutting.proofs.lines.Tables.earlier.Goals as goal

pub loop-c-init : goal.loop-c-init
loop-c-init c = (omega arith, refl)

pub returns-then-p-q : goal.returns-then-p-q
returns-then-p-q c =
    let loop = c.loop-c in
    less_at _ _ _ _ _ loop.invariant.1 c.next-p.ensures.rest c.next-q.ensures.rest
    c.if-p-q.true

pub loop-c-smaller : goal.loop-c-smaller
loop-c-smaller c =
    omega (arith, c.next-p.ensures.after, c.next-p.ensures.within)

pub loop-c-preserved : goal.loop-c-preserved
loop-c-preserved c =
    let loop = c.loop-c in (
      omega (arith, c.next-p.ensures.within),
      less_on _ _ _ _ _ loop.invariant.1 c.next-p.ensures.rest c.next-q.ensures.rest
          c.if-p-q.false,
    )

pub returns : goal.returns
returns c = less_end _ c.loop-c.invariant.1 (rest_end _ _ _ _ _ _ _ _ (omega arith))
