-- `drawing::corners::prev` meets its contract.
use mathlib.Core.Path.{◌≡◌, refl, sym}
use Prim.Native.Nat.{ℕ, zero, suc, ◌-◌}
use native.Mathlib.Omega.{arith}
use Rattle.outline.specs.Drawing.{prev}
use Rattle.drawing.proofs.corners.prev.Goals as goal

at_first : (n i : ℕ) → i ≡ 0 → prev n i ≡ n - 1
at_first n zero e = refl
at_first n (suc i) e = absurd (omega arith)

later : (n i : ℕ) → ¬ (i ≡ 0) → prev n i ≡ i - 1
later n zero f = absurd (f refl)
later n (suc i) f = omega arith

pub returns-then-i-eq0 : goal.returns-then-i-eq0
returns-then-i-eq0 c = record { is = sym (at_first _ _ c.if-i-eq0.true); below = omega arith }

pub returns-else-i-eq0 : goal.returns-else-i-eq0
returns-else-i-eq0 c = record { is = sym (later _ _ c.if-i-eq0.false); below = omega arith }
