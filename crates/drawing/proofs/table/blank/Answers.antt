-- `drawing::table::blank` meets its contract.
use mathlib.Core.Path.{◌≡◌}
use native.Mathlib.Omega.{arith}
use Rattle.outline.specs.Drawing.{corners}
use Rattle.drawing.proofs.Blank.{rows_none, rows_more, blank_marked}
use Rattle.drawing.proofs.table.blank.Goals as goal

pub loop-i-init : goal.loop-i-init
loop-i-init c = (omega arith, rows_none)

pub loop-i-preserved : goal.loop-i-preserved
loop-i-preserved c =
    let few = c.args.ring.sound.shaped.few in
    let l = rw c.count-n.ensures at c.loop-i-test.true in
    (omega (arith, l), rows_more few l c.loop-i.invariant.1 (rw c.count-n.ensures at c.blank_row.ensures))

pub returns : goal.returns
returns c =
    let all : c.loop-i.i ≡ corners c.args.ring.xy.now =
    omega (arith, c.loop-i.invariant.0, c.loop-i-test.false) in
    blank_marked (rw all at c.loop-i.invariant.1)
