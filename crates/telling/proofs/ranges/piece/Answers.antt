-- `ranges::piece`: the corners after the first, and then the three numbers before them.
use native.Mathlib.Omega.{arith}
use Rattle.rules.specs.Walk.{corners_few}
use Rattle.telling.proofs.Tellings.{pairs_wide}
use Rattle.telling.proofs.Writes.{wrote_piece}
use Rattle.telling.proofs.ranges.piece.Goals as goal

pub overflow_cast-out : goal.overflow_cast-out
overflow_cast-out c =
    let few = corners_few (pairs_wide c.args.pairs.now) _ _ c.requires.corners.0 in
    omega (arith, few, c.requires.corners, c.spell-after.ensures.past)

pub returns : goal.returns
returns c =
    let w = c.spell-after.ensures in
    wrote_piece c.args.out.now (omega (arith, c.requires.room)) (omega (arith, w.past)) w
