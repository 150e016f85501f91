-- `drawing::seeing::look` meets its contract.
use mathlib.Core.Path.{refl}
use mathlib.Core.Logic.{◌⊎◌, inl, inr}
use mathlib.Core.List.{List}
use Prim.Native.Nat.{ℕ, ◌<◌}
use lib.IntN.{ℤ}
use Rattle.outline.specs.Drawing.{Sound, corners, Angle, Beside}
use Rattle.outline.specs.InOrOn.{CentreSees}
use Rattle.outline.specs.Tells.{if_no}
use Rattle.outline.specs.Seeing.{beside_or}
use Rattle.outline.specs.Begins.{Begins}
use Rattle.outline.proofs.Begins.{inside_or_along}
use Rattle.drawing.specs.Table.{Early}
use Rattle.drawing.proofs.seeing.look.Goals as goal

-- a corner that is seen is a neighbour, or inside the angle, or the line of sight begins with a side
told-early : (d : List ℤ) → Sound d → (i j : ℕ) → i < corners d → j < corners d → ¬ Angle d i j → CentreSees d i j →
    Early d i j
told-early d sound i j hi hj n s = go (beside_or d i j)
  where
    seen : Angle d i j ⊎ Begins d i j → Early d i j
    seen (inl a) = absurd (n a)
    seen (inr b) = inr (inl b)

    go : Beside d i j ⊎ (¬ Beside d i j) → Early d i j
    go (inl b) = inl b
    go (inr apart) = seen (inside_or_along d sound i j hi hj apart s)

pub returns-then-not-angle : goal.returns-then-not-angle
returns-then-not-angle c =
    let h = c.requires.corners in
    let outside = if_no c.angle.ensures c.if-not-angle.true in
    record { told = inr (refl, told-early _ c.args.ring.sound c.args.i c.args.j h.0 h.1 outside) }

pub returns : goal.returns
returns c = record { told = inl c.look_along.ensures }
