-- `ranges::spell`: the corners after c are left to be stored.
use mathlib.Core.Path.{ap}
use native.Mathlib.Omega.{arith}
use lib.ListN.{length}
use Rattle.rules.specs.Walk.{step_on, corners_more, corners_end}
use Rattle.telling.proofs.Tellings.{pairs_wide}
use Rattle.telling.proofs.Writes.{left_room, left_one, left_end}
use Rattle.telling.proofs.ranges.spell.Goals as goal

pub bounds-out-past : goal.bounds-out-past
bounds-out-past c =
    let inv = c.loop-c.invariant in
    let more = corners_more (pairs_wide c.args.pairs.now) inv.0 c.furthest-c.ensures c.loop-c-test.true in
    omega (arith, left_room inv.1, ap length more)

pub loop-c-preserved : goal.loop-c-preserved
loop-c-preserved c =
    let inv = c.loop-c.invariant in
    let n = c.furthest-c.ensures in
    let l = c.loop-c-test.true in
    let wide = pairs_wide c.args.pairs.now in
    (step_on wide inv.0 n l, left_one inv.1 (corners_more wide inv.0 n l))

pub returns : goal.returns
returns c = left_end c.loop-c.invariant.1 (corners_end _ _ _ _ c.loop-c-test.false)
