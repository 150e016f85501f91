-- Going round n corners: the corner after (`next`) and the corner before (`prev`) undo each other.
use Rattle.std.specs.Prelude.{◌≡◌, cond, ℕ, zero, suc, ◌+◌, ◌-◌, ◌<◌}
use Rattle.std.proofs.Common.{◌∙◌, ap, arith, eq-eqb, ne_eqb}
use Rattle.std.proofs.Math.Logic.{by_cases}
use Rattle.std.proofs.Math.Decide.{dec_lt}
use Rattle.outline.specs.Drawing.{next, prev}

pub next_inner : (n i : ℕ) → suc i < n → next n i ≡ suc i
next_inner n i h = ap (λ t. cond t 0 (suc i)) (ne_eqb (suc i) n (λ e. omega arith))

pub next_last : (n i : ℕ) → suc i ≡ n → next n i ≡ 0
next_last n i e = ap (λ t. cond t 0 (suc i)) (eq-eqb (suc i) n e)

module _ (n i : ℕ) (h : i < n) where
  pub next_below : next n i < n
  next_below =
      by_cases (dec_lt (suc i) n) (λ l. omega (arith, next_inner n i l))
      (λ l. omega (arith, next_last n i (omega arith)))

  pub prev_next : prev n (next n i) ≡ i
  prev_next =
      by_cases (dec_lt (suc i) n) (λ l. ap (prev n) (next_inner n i l))
      (λ l. ap (prev n) (next_last n i (omega arith)) ∙ omega arith)

pub prev_below : (n i : ℕ) → i < n → prev n i < n
prev_below n zero h = omega arith
prev_below n (suc i) h = omega arith

pub next_prev : (n i : ℕ) → i < n → next n (prev n i) ≡ i
next_prev n zero h = next_last n (n - 1) (omega arith)
next_prev n (suc i) h = next_inner n i h

-- the corners from the last one down
pub next_down : (n t : ℕ) → t + 1 < n → next n (n - (t + 1 + 1)) ≡ n - (t + 1)
next_down n t h = next_inner n (n - (t + 1 + 1)) (omega (arith, h)) ∙ omega (arith, h)
