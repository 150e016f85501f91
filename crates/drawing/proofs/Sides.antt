-- Which of the sides before side i are its neighbours: the one just before it and, where i is the last, side 0.
use mathlib.Core.Path.{◌≡◌, ◌∙◌}
use mathlib.Core.Logic.{by_cases}
use mathlib.Core.Bool.{Bool}
use mathlib.Core.List.{List}
use Prim.Native.Nat.{ℕ, suc, ◌-◌, ◌≤◌, ◌<◌}
use native.Mathlib.Decide.{ℕ_discrete, dec_lt}
use native.Mathlib.Omega.{arith}
use lib.IntN.{ℤ}
use Rattle.whole.specs.Masks.{Digit}
use Rattle.outline.specs.Drawing.{corners, after, SidesShare}
use Rattle.outline.specs.Round.{next_inner, next_last}
use Rattle.outline.specs.Sides.{SidesApart}
use Rattle.outline.specs.Tells.{Tells, as_well}

-- f is 1 where side 0 comes after side i, else 0
module _ (d : List ℤ) {i f : ℕ} (hi : i < corners d) (first : Digit f (after d i ≡ 0)) where
  before : (j : ℕ) → j < i → after d j ≡ suc j
  before j l = next_inner (corners d) j (omega (arith, hi, l))

  from : (j : ℕ) → ¬ (after d i ≡ j) → f ≤ j
  from j p =
      by_cases (dec_lt j f)
      (λ l. absurd (p (first.one (omega (arith, l, first.small)) ∙ omega (arith, l, first.small)))) (λ n. omega arith)

  to : (j : ℕ) → j < i → ¬ (after d j ≡ i) → j < i - 1
  to j l q = by_cases (ℕ_discrete (suc j) i) (λ e. absurd (q (before j l ∙ e))) (λ n. omega arith)

  none_after : (j : ℕ) → f ≤ j → j < i → ¬ (after d i ≡ j)
  none_after j m l e =
      by_cases (dec_lt (suc i) (corners d)) (λ k. omega (arith, next_inner (corners d) i k))
      (λ k. let z : after d i ≡ 0 = next_last (corners d) i (omega arith) in first.nought (omega (arith, z)) z)

  none_before : (j : ℕ) → j < i - 1 → ¬ (after d j ≡ i)
  none_before j l e = omega (arith, before j (omega arith))

  -- side i is apart from each side before it where it shares no point with those that are no neighbours
  pub apart_tells : {r : Bool} → Tells r ((j : ℕ) → f ≤ j → j < i - 1 → ¬ SidesShare d i j) →
      Tells r ((j : ℕ) → j < i → SidesApart d i j)
  apart_tells t =
      as_well t (λ g j l. record { apart = λ p q. g j (from j p) (to j l q) })
      (λ g j m l. let k : j < i = omega arith in (g j k).apart (none_after j m k) (none_before j l))
