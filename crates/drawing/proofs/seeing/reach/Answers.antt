-- `drawing::seeing::reach` meets its contract.
use mathlib.Core.Path.{◌≡◌, ap}
use mathlib.Core.Logic.{inl, inr}
use Prim.Native.Nat.{ℕ}
use native.Mathlib.Omega.{arith}
use lib.Bits.{bit_or}
use lib.IntN.{ℤ}
use mir.Syntax.{w64}
use mir.Val.{of_z}
use Rattle.whole.specs.Bits.{bit_small, bit-or, bit_full}
use Rattle.drawing.specs.Known.{Reaches}
use Rattle.drawing.proofs.seeing.reach.Goals as goal

pub returns-then-p-q : goal.returns-then-p-q
returns-then-p-q c = λ k h x. bit_full 64 k h

-- where the two differ
either-mark : {p q : ℤ} (u w : ℕ) → ¬ (p ≡ q) → Reaches p u q w (bit_or u w)
either-mark u w n k h (inl e) = absurd (n e)
either-mark u w n k h (inr (inl e)) = omega (arith, e, bit-or u w k, bit_small w k)
either-mark u w n k h (inr (inr e)) = omega (arith, e, bit-or u w k, bit_small u k)

pub returns-else-p-q : goal.returns-else-p-q
returns-else-p-q c = either-mark c.args.first c.args.second (λ e. c.if-p-q.false (ap (of_z w64) e))
