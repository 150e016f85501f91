-- The sign of a number as a truth value: is it above zero? So are sides and heights compared.
use Rattle.std.specs.Prelude.{◌≡◌, refl, Bool, true, false, ◌⊎◌, [], ◌∷◌, ℤ, pos, neg_ℤ, ◌-ℤ◌, ◌*ℤ◌, ◌≤ℤ◌, ◌<ℤ◌}
use Rattle.std.proofs.Common.{sym, ◌∙◌, ap, subst, inl, inr}
use Rattle.std.specs.Int.Signed.{lt_z}
use Rattle.whole.specs.Ring.{v, con, ◌:-◌, ◌:*◌, neg, ring, by_ring}
use Rattle.whole.specs.Order.{Nonneg, Positive, positive_nonneg, positive_mul, positive_not, positive_cancel}
use Rattle.whole.specs.Order.{le_sub, lt_sub, sub_lt, ≤ℤ_total}
use Rattle.outline.specs.Tells.{is_yes, is_no, one_truth, as_well}
use Rattle.outline.specs.Tests.{lt_tells}

abbrev pub is_above : ℤ → Bool
is_above z = lt_z (pos 0) z

pub above_yes : {z : ℤ} → Positive z → is_above z ≡ true
above_yes {z} h = is_yes (lt_tells (pos 0) z) h

pub above_no : (z : ℤ) → Nonneg (neg_ℤ z) → is_above z ≡ false
above_no z h = is_no (lt_tells (pos 0) z) (λ p. positive_not p h)

pub neg_nonneg : {z : ℤ} → z ≤ℤ pos 0 → Nonneg (neg_ℤ z)
neg_nonneg {z} h = by_ring (z ∷ []) Nonneg (con (pos 0) :- v 0) (neg (v 0)) refl (le_sub h)

-- two numbers of which neither is above zero without the other, given with their opposites
pub same_above : {x y x' y' : ℤ} → neg_ℤ x ≡ x' → neg_ℤ y ≡ y' → (Positive x → ¬ Nonneg y') →
    (Nonneg x' → ¬ Positive y) →
    is_above x ≡ is_above y
same_above {x} {y} ex ey f g = go (≤ℤ_total x (pos 0)) (≤ℤ_total y (pos 0))
  where
    go : (x ≤ℤ pos 0) ⊎ (pos 0 <ℤ x) → (y ≤ℤ pos 0) ⊎ (pos 0 <ℤ y) → is_above x ≡ is_above y
    go (inl h) (inl k) = above_no x (neg_nonneg h) ∙ sym (above_no y (neg_nonneg k))
    go (inl h) (inr k) = absurd (g (subst Nonneg ex (neg_nonneg h)) k)
    go (inr h) (inl k) = absurd (f h (subst Nonneg ey (neg_nonneg k)))
    go (inr h) (inr k) = above_yes h ∙ sym (above_yes k)

-- ---- the order is the sign of the difference, and a scale k > 0 changes neither
pub lt_above : (a b : ℤ) → lt_z a b ≡ is_above (b -ℤ a)
lt_above a b = one_truth (lt_tells a b) (as_well (lt_tells (pos 0) (b -ℤ a)) (λ h. sub_lt h) (λ h. lt_sub h))

pub above_scale : (k z : ℤ) → Positive k → is_above (k *ℤ z) ≡ is_above z
above_scale k z h =
    one_truth (lt_tells (pos 0) (k *ℤ z))
    (as_well (lt_tells (pos 0) z) (λ p. positive_mul h p) (λ p. positive_cancel (positive_nonneg h) p))

pub lt_scale : (k a b : ℤ) → Positive k → lt_z (k *ℤ a) (k *ℤ b) ≡ lt_z a b
lt_scale k a b h =
    lt_above (k *ℤ a) (k *ℤ b)
    ∙ ap is_above (ring (k ∷ a ∷ b ∷ []) (v 0 :* v 2 :- v 0 :* v 1) (v 0 :* (v 2 :- v 1)) refl)
    ∙ above_scale k (b -ℤ a) h ∙ sym (lt_above a b)
