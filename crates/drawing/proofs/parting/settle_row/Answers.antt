-- `drawing::parting::settle_row` meets its contract: the pairs with the corners before j are settled.
use mathlib.Core.Path.{◌≡◌, subst}
use native.Mathlib.Omega.{arith}
use Rattle.outline.specs.Drawing.{corners}
use Rattle.drawing.specs.Table.{RowSettled}
use Rattle.drawing.proofs.Settling.{settling_none, row_more}
use Rattle.drawing.proofs.parting.settle_row.Goals as goal
use Rattle.drawing.proofs.parting.settle_row.Goals.{then-cells-i-ge-GRAZED, else-cells-i-ge-GRAZED}

pub loop-j-init : goal.loop-j-init
loop-j-init c =
    let h = c.requires in (
      omega (arith, h.corner),
      record { settling = settling_none h.coded; row = λ q k l. absurd (omega (arith, k, l)) },
    )

pub loop-j-preserved : goal.loop-j-preserved
loop-j-preserved c =
    let h = c.requires in
    let l = rw c.count-n.ensures at c.loop-j-test.true in
    let inv = c.loop-j.invariant in (
      omega (arith, l),
      elim c.if-cells-i-ge-GRAZED.branch [
        | then-cells-i-ge-GRAZED w ↦
            let pair = w.centre_sees.ensures in rw w.cells-is (row_more h.corner l inv.1 pair.settling pair.here)
        | else-cells-i-ge-GRAZED w ↦
            let none = settling_none inv.1.settling.coded in
            rw w.cells-is (row_more h.corner l inv.1 none w.if-cells-i-ge-GRAZED.false)
      ],
    )

pub returns : goal.returns
returns c =
    let loop = c.loop-j in
    let s = c.args in
    let all : loop.j ≡ corners s.ring.xy.now = omega (arith, loop.invariant.0, c.loop-j-test.false) in
    subst (λ t. RowSettled s.ring.xy.now s.i t s.cells.now loop.cells) all loop.invariant.1
