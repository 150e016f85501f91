-- `drawing::beginnings::along_side` meets its contract.
use mathlib.Core.Path.{◌≡◌, sym, subst}
use mathlib.Core.Logic.{inl, inr}
use mathlib.Core.List.{List}
use Prim.Native.Nat.{ℕ, ◌+◌}
use lib.IntN.{ℤ}
use Rattle.outline.specs.Drawing.{after}
use Rattle.drawing.specs.Known.{LiesOn}
use Rattle.drawing.specs.Table.{SideBegun, both}
use Rattle.outline.specs.Tells.{if_yes, if_no}
use Rattle.drawing.proofs.beginnings.along_side.Goals as goal

-- the side's other end by its number
module _ (d : List ℤ) (i k m : ℕ) (is : m ≡ after d k) (before now : List ℕ) where
  first-end : LiesOn d k i m → now ≡ both before i m (4 + k) → SideBegun d i k before now
  first-end o e =
      inl (subst (λ x. LiesOn d k i x) is o, subst (λ x. now ≡ both before i x (4 + k)) is e)

  other-end : ¬ LiesOn d k i m → now ≡ both before i k (4 + m) → SideBegun d i k before now
  other-end n e =
      inr ((λ o. n (subst (λ x. LiesOn d k i x) (sym is) o)), subst (λ x. now ≡ both before i k (4 + x)) is e)

pub returns-then-lies_on : goal.returns-then-lies_on
returns-then-lies_on c =
    first-end c.args.ring.xy.now c.args.i c.args.k c.next-m.result
    c.next-m.ensures.is c.args.cells.now c.put.new.cells
    (if_yes c.lies_on.ensures c.if-lies_on.true) c.put.ensures

pub returns-else-lies_on : goal.returns-else-lies_on
returns-else-lies_on c =
    other-end c.args.ring.xy.now c.args.i c.args.k c.next-m.result
    c.next-m.ensures.is c.args.cells.now c.put-else-lies_on.new.cells
    (if_no c.lies_on.ensures c.if-lies_on.false) c.put-else-lies_on.ensures
