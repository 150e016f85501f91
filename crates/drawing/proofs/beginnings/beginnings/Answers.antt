-- `drawing::beginnings::beginnings` meets its contract: the corners before i are told.
use mathlib.Core.Path.{◌≡◌}
use native.Mathlib.Omega.{arith}
use Rattle.outline.specs.Drawing.{corners}
use Rattle.drawing.proofs.Growing.{grows_on}
use Rattle.drawing.proofs.Begun.{begun_first, begun_all}
use Rattle.drawing.proofs.beginnings.beginnings.Goals as goal

pub loop-i-init : goal.loop-i-init
loop-i-init c = (omega arith, begun_first)

pub loop-i-preserved : goal.loop-i-preserved
loop-i-preserved c =
    (omega (arith, c.loop-i-test.true), grows_on c.loop-i.invariant.1 c.along_sides.ensures)

pub returns : goal.returns
returns c =
    let loop = c.loop-i in
    let all : loop.i ≡ corners c.args.ring.xy.now =
    omega (arith, loop.invariant.0, c.loop-i-test.false) in
    grows_on (rw all at loop.invariant.1) begun_all
