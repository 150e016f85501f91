-- `drawing::table::neighbours` meets its contract.
use mathlib.Core.Path.{◌≡◌}
use Prim.Native.Nat.{◌≤◌}
use native.Mathlib.Omega.{arith}
use lib.ListN.{length}
use Rattle.limits.specs.Limits.{all_cells}
use Rattle.outline.specs.Drawing.{corners}
use Rattle.drawing.proofs.Growing.{grows_on}
use Rattle.drawing.proofs.Neighbours.{next_none, next_more, next_all}
use Rattle.drawing.proofs.table.neighbours.Goals as goal

pub loop-i-init : goal.loop-i-init
loop-i-init c = (omega arith, next_none)

pub loop-i-preserved : goal.loop-i-preserved
loop-i-preserved c =
    let l = rw c.count-n.ensures at c.loop-i-test.true in
    let loop = c.loop-i in
    let h = c.requires in
    let room : all_cells ≤ length loop.cells = omega (arith, loop.invariant.1.size) in
    let two = c.put-in-loop-i.ensures in (
      omega (arith, l),
      grows_on loop.invariant.1 (next_more c.args.ring.sound.shaped.few l c.next-m.ensures room c.put.ensures two),
    )

pub returns : goal.returns
returns c =
    let loop = c.loop-i in
    let all : loop.i ≡ corners c.args.ring.xy.now =
    omega (arith, loop.invariant.0, c.loop-i-test.false) in
    grows_on (rw all at loop.invariant.1) next_all
