-- `drawing::faced::around` meets its contract.
use mathlib.Core.Path.{◌≡◌, sym, subst}
use Prim.Native.Nat.{ℕ, suc, ◌*◌, ◌-◌, ◌+◌, ◌%◌, ◌^◌, ◌≤◌}
use native.Mathlib.Omega.{arith}
use native.Mathlib.Nat.{pow-suc}
use lib.Pow.{pow_mono}
use Rattle.whole.specs.Bits.{shifted_one}
use Rattle.drawing.specs.Known.{Around}
use Rattle.drawing.specs.Faced.{turned_low, turned_high}
use Rattle.drawing.proofs.faced.around.Goals as goal

-- the highest of n digits
top : (n : ℕ) → 3 ≤ n → n ≤ 64 → 1 * 2 ^ (n - 1) % 2 ^ 64 ≡ 2 ^ (n - 1)
top n h l = shifted_one (n - 1) (omega (arith, h, l))

twice : (n : ℕ) → 3 ≤ n → n ≤ 64 → (2 ^ n ≡ 2 ^ (n - 1) * 2) × (2 ^ (n - 1) * 2 ≤ 2 ^ 64)
twice n h l =
    let e : suc (n - 1) ≡ n = omega (arith, h) in (
      subst (λ x. 2 ^ x ≡ 2 ^ (n - 1) * 2) e (pow-suc 2 (n - 1)),
      subst (λ x. x ≤ 2 ^ 64) (pow-suc 2 (n - 1)) (pow_mono {i = suc (n - 1)} {j = 64} (omega (arith, h, l))),
    )

pub returns-then-m-top : goal.returns-then-m-top
returns-then-m-top c =
    let h = c.requires in
    let n = c.args.n in
    turned_low n c.args.m (omega (arith, h.0)) (omega (arith, c.if-m-top.true, top n h.0 h.1))

pub returns-else-m-top : goal.returns-else-m-top
returns-else-m-top c =
    let h = c.requires in
    let n = c.args.n in
    let m = c.args.m in
    let e = top n h.0 h.1 in
    subst (λ x. Around n m ((m - x) * 2 + 1)) (sym e)
    (turned_high n m (omega (arith, h.0)) (omega (arith, c.if-m-top.false, e)) h.2)
