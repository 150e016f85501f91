-- `drawing::masks::learn` meets its contract: what the corners before i know is there.
use mathlib.Core.Path.{◌≡◌, refl}
use Prim.Native.Nat.{◌<◌}
use native.Mathlib.Omega.{arith}
use lib.ListN.{length, length-set}
use Rattle.outline.specs.Drawing.{corners}
use Rattle.drawing.proofs.Learning.{known_more}
use Rattle.drawing.proofs.masks.learn.Goals as goal

pub loop-i-init : goal.loop-i-init
loop-i-init c = (omega arith, λ j l. absurd (omega arith), refl)

pub loop-i-preserved : goal.loop-i-preserved
loop-i-preserved c =
    let loop = c.loop-i in
    let l = c.loop-i-test.true in
    let here : loop.i < length loop.known =
    omega (arith, c.args.ring.sound.shaped.few, l, loop.invariant.2) in (
      omega (arith, l),
      known_more loop.known here loop.invariant.1 c.know.ensures,
      simp length-set loop.invariant.2,
    )

pub returns : goal.returns
returns c =
    let loop = c.loop-i in
    let all : loop.i ≡ corners c.args.ring.xy.now =
    omega (arith, loop.invariant.0, c.loop-i-test.false) in
    rw all at loop.invariant.1
