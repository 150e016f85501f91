-- A whole number has one sign; a sum is no less than its parts; comparisons as truth values.
use Rattle.std.specs.Prelude.{◌≡◌, refl, true, false, not, [], ◌∷◌, T, ℤ, pos, neg_ℤ, ◌+ℤ◌, ◌≤ℤ◌, ◌<ℤ◌}
use Rattle.std.proofs.Common.{sym, subst}
use Rattle.std.specs.Int.Signed.{lt_z, lt_z_no, <ℤ_irrefl, clash_ℤ}
use Rattle.whole.specs.Ring.{v, ◌:+◌, ◌:-◌, by_ring}
use Rattle.whole.specs.Order.{Nonneg, Positive, positive_not, positive_nonneg, sub_le}
use Rattle.outline.specs.Tells.{if_yes, is_yes, is_no}
use Rattle.outline.specs.Tests.{lt_tells}

pub plus_off : {z : ℤ} → Positive z → ¬ (z ≡ pos 0)
plus_off h e = <ℤ_irrefl (subst Positive e h)

pub minus_off : {z : ℤ} → Positive (neg_ℤ z) → ¬ (z ≡ pos 0)
minus_off h e = <ℤ_irrefl (subst (λ z. Positive (neg_ℤ z)) e h)

pub both_signs : {X : Type 0} {z : ℤ} → Positive z → Positive (neg_ℤ z) → X
both_signs h k = positive_not h (positive_nonneg k)

-- ---- a sum is no less than its parts
pub first_part : (a b : ℤ) → Positive b → a ≤ℤ (a +ℤ b)
first_part a b h = sub_le (by_ring (a ∷ b ∷ []) Nonneg (v 1) (v 0 :+ v 1 :- v 0) refl (positive_nonneg h))

pub second_part : (a b : ℤ) → Positive a → b ≤ℤ (a +ℤ b)
second_part a b h = sub_le (by_ring (a ∷ b ∷ []) Nonneg (v 0) (v 0 :+ v 1 :- v 1) refl (positive_nonneg h))

-- ---- a < b
pub less : (a b : ℤ) → a <ℤ b → lt_z a b ≡ true
less a b h = is_yes (lt_tells a b) h

pub not_less : (a b : ℤ) → b ≤ℤ a → lt_z a b ≡ false
not_less a b h = is_no (lt_tells a b) (λ k. clash_ℤ k h)

pub is_less : (a b : ℤ) → lt_z a b ≡ true → a <ℤ b
is_less a b e = if_yes (lt_tells a b) e

pub is_not_less : (a b : ℤ) → lt_z a b ≡ false → b ≤ℤ a
is_not_less a b e = lt_z_no (subst (λ t. T (not t)) (sym e) tt)
