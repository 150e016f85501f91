-- `drawing::table::blank_row` meets its contract.
use mathlib.Core.Path.{◌≡◌}
use native.Mathlib.Omega.{arith}
use Rattle.drawing.proofs.Blank.{blank_none, blank_more}
use Rattle.drawing.proofs.table.blank_row.Goals as goal

pub loop-j-init : goal.loop-j-init
loop-j-init c = (omega arith, blank_none)

pub loop-j-preserved : goal.loop-j-preserved
loop-j-preserved c =
    let h = c.requires in
    let inv = c.loop-j.invariant in
    let l = c.loop-j-test.true in
    (omega (arith, l), blank_more h.0 (omega (arith, l, h.1)) (omega (arith, inv.1.size)) inv.1)

pub returns : goal.returns
returns c =
    let all : c.loop-j.j ≡ c.args.n =
    omega (arith, c.loop-j.invariant.0, c.loop-j-test.false) in
    rw all at c.loop-j.invariant.1
