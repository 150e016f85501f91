-- `drawing::faced::angles` meets its contract: with j corners left the masks tell of the corners from j on.
use mathlib.Core.Path.{refl}
use Rattle.outline.specs.Tells.{eq_tells}
use Rattle.drawing.proofs.Machine.{digit, made_first, made_down, made_last}
use Rattle.drawing.proofs.faced.angles.Goals as goal

pub loop-j-init : goal.loop-j-init
loop-j-init c = (made_first refl, made_first refl)

pub loop-j-preserved : goal.loop-j-preserved
loop-j-preserved c =
    let inv = c.loop-j.invariant in
    let l = c.loop-j-test.true in
    let h = c.loop-j.auto.j in (
      rw c.from.ensures (made_down l h inv.0 (digit (eq_tells _ 2))),
      rw c.from-in-loop-j.ensures (made_down l h inv.1 (digit (eq_tells _ 1))),
    )

pub returns : goal.returns
returns c =
    let loop = c.loop-j in
    let none = c.loop-j-test.false in
    record { two = made_last none loop.invariant.0; one = made_last none loop.invariant.1 }
