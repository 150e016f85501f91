-- `drawing::table::decide` meets its contract.
use mathlib.Core.Path.{◌≡◌, refl}
use mathlib.Core.Logic.{◌⊎◌, inl, inr}
use mathlib.Core.List.{List}
use Prim.Native.Nat.{ℕ}
use lib.IntN.{ℤ}
use Rattle.outline.specs.InOrOn.{CentreSees}
use Rattle.drawing.specs.Table.{Early, Code, Looked}
use Rattle.drawing.specs.Codes.{nought_unseen}
use Rattle.drawing.proofs.table.decide.Goals as goal

module _ (d : List ℤ) (i j v : ℕ) (look : Looked d i j v) where
  -- nothing is written
  told-before : v ≡ 0 → CentreSees d i j → Early d i j
  told-before z s = go look.told
    where
      go : Code d i j v ⊎ ((v ≡ 0) × (CentreSees d i j → Early d i j)) → Early d i j
      go (inl k) = absurd (nought_unseen k z s)
      go (inr x) = x.1 s

pub returns-else-told-ne0 : goal.returns-else-told-ne0
returns-else-told-ne0 c = inr (told-before _ _ _ _ c.look-told.ensures c.if-told-ne0.false, refl)
