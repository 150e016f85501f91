-- `drawing::parting::settle` meets its contract: the rows before i are settled.
use mathlib.Core.Path.{◌≡◌, subst}
use native.Mathlib.Omega.{arith}
use Rattle.outline.specs.Drawing.{corners}
use Rattle.drawing.specs.Table.{RowsSettled}
use Rattle.drawing.proofs.Settling.{settling_none, rows_more}
use Rattle.drawing.proofs.parting.settle.Goals as goal

pub loop-i-init : goal.loop-i-init
loop-i-init c =
    (omega arith, record { settling = settling_none c.requires; rows = λ p q l k. absurd (omega arith) })

pub loop-i-preserved : goal.loop-i-preserved
loop-i-preserved c =
    let l = rw c.count-n.ensures at c.loop-i-test.true in
    (omega (arith, l), rows_more l c.loop-i.invariant.1 c.settle_row.ensures)

pub returns : goal.returns
returns c =
    let loop = c.loop-i in
    let s = c.args in
    let all : loop.i ≡ corners s.ring.xy.now = omega (arith, loop.invariant.0, c.loop-i-test.false) in
    subst (λ t. RowsSettled s.ring.xy.now t s.cells.now loop.cells) all loop.invariant.1
