-- The laws of sum, product and negation that lib.IntN leaves out.
use Rattle.std.specs.Prelude.{◌≡◌, zero, ℤ, pos, neg_ℤ, ◌+ℤ◌, ◌-ℤ◌, ◌*ℤ◌}
use Rattle.std.proofs.Common.{sym, ◌∙◌, ap, subst}
use Rattle.std.proofs.Math.IntN.{suc_ℤ, pred_ℤ, ℤ_ind, +ℤ_assoc, +ℤ_comm, +ℤ_idl, +ℤ_invr, +ℤ_one, -ℤ_one, +ℤ-neg_ℤ_cancel, neg_ℤ-+ℤ, *ℤ_comm, zero-*ℤ, suc_ℤ-*ℤ, pred_ℤ-*ℤ}

-- a statement that holds of 0 and is carried one up and one down holds of every whole number
pub induct : (P : ℤ → Type 0) → P (pos zero) → ((a : ℤ) → P a → P (suc_ℤ a)) → ((a : ℤ) → P a → P (pred_ℤ a)) →
    (a : ℤ) → P a
induct P z up down =
    ℤ_ind P z (λ n h. subst P (sym (+ℤ_one (pos n))) (up (pos n) h))
    (λ n h. subst P (sym (-ℤ_one (neg_ℤ (pos n)))) (down (neg_ℤ (pos n)) h))

-- the middle two of four change places
pub +ℤ_middle : (a b c d : ℤ) → (a +ℤ b) +ℤ (c +ℤ d) ≡ (a +ℤ c) +ℤ (b +ℤ d)
+ℤ_middle a b c d =
    +ℤ_assoc a b (c +ℤ d)
    ∙ ap (λ x. a +ℤ x) (sym (+ℤ_assoc b c d) ∙ ap (λ x. x +ℤ d) (+ℤ_comm b c) ∙ +ℤ_assoc c b d)
    ∙ sym (+ℤ_assoc a c (b +ℤ d))

-- ---- distributivity, by steps of one in the first factor
abbrev Spread : ℤ → ℤ → ℤ → Type 0
Spread b c a = a *ℤ (b +ℤ c) ≡ a *ℤ b +ℤ a *ℤ c

spread_suc : (b c a : ℤ) → Spread b c a → Spread b c (suc_ℤ a)
spread_suc b c a h =
    suc_ℤ-*ℤ a (b +ℤ c)
    ∙ ap (λ x. x +ℤ (b +ℤ c)) h
    ∙ +ℤ_middle (a *ℤ b) (a *ℤ c) b c
    ∙ ap (λ x. x +ℤ (a *ℤ c +ℤ c)) (sym (suc_ℤ-*ℤ a b))
    ∙ ap (λ x. suc_ℤ a *ℤ b +ℤ x) (sym (suc_ℤ-*ℤ a c))

spread_pred : (b c a : ℤ) → Spread b c a → Spread b c (pred_ℤ a)
spread_pred b c a h =
    pred_ℤ-*ℤ a (b +ℤ c)
    ∙ ap (λ x. x -ℤ (b +ℤ c)) h
    ∙ ap (λ x. (a *ℤ b +ℤ a *ℤ c) +ℤ x) (neg_ℤ-+ℤ b c)
    ∙ +ℤ_middle (a *ℤ b) (a *ℤ c) (neg_ℤ b) (neg_ℤ c)
    ∙ ap (λ x. x +ℤ (a *ℤ c -ℤ c)) (sym (pred_ℤ-*ℤ a b))
    ∙ ap (λ x. pred_ℤ a *ℤ b +ℤ x) (sym (pred_ℤ-*ℤ a c))

pub *ℤ_distl : (a b c : ℤ) → a *ℤ (b +ℤ c) ≡ a *ℤ b +ℤ a *ℤ c
*ℤ_distl a b c = induct (Spread b c) nought (spread_suc b c) (spread_pred b c) a
  where
    nought : Spread b c (pos zero)
    nought = zero-*ℤ (b +ℤ c) ∙ sym (ap (λ x. x +ℤ pos zero *ℤ c) (zero-*ℤ b) ∙ +ℤ_idl (pos zero *ℤ c) ∙ zero-*ℤ c)

pub *ℤ_distr : (a b c : ℤ) → (a +ℤ b) *ℤ c ≡ a *ℤ c +ℤ b *ℤ c
*ℤ_distr a b c = *ℤ_comm (a +ℤ b) c ∙ *ℤ_distl c a b ∙ rw (*ℤ_comm c a, *ℤ_comm c b)

-- ---- negation
neg_unique : (x y : ℤ) → x +ℤ y ≡ pos zero → y ≡ neg_ℤ x
neg_unique x y h = sym (+ℤ-neg_ℤ_cancel y x) ∙ ap (λ z. z -ℤ x) (+ℤ_comm y x ∙ h) ∙ +ℤ_idl (neg_ℤ x)

pub *ℤ_negl : (a b : ℤ) → neg_ℤ a *ℤ b ≡ neg_ℤ (a *ℤ b)
*ℤ_negl a b =
    neg_unique (a *ℤ b) (neg_ℤ a *ℤ b) (sym (*ℤ_distr a (neg_ℤ a) b) ∙ ap (λ z. z *ℤ b) (+ℤ_invr a) ∙ zero-*ℤ b)

-- ---- associativity, by steps of one in the first factor
abbrev Regroup : ℤ → ℤ → ℤ → Type 0
Regroup b c a = (a *ℤ b) *ℤ c ≡ a *ℤ (b *ℤ c)

regroup_suc : (b c a : ℤ) → Regroup b c a → Regroup b c (suc_ℤ a)
regroup_suc b c a h =
    ap (λ x. x *ℤ c) (suc_ℤ-*ℤ a b)
    ∙ *ℤ_distr (a *ℤ b) b c
    ∙ ap (λ x. x +ℤ b *ℤ c) h
    ∙ sym (suc_ℤ-*ℤ a (b *ℤ c))

regroup_pred : (b c a : ℤ) → Regroup b c a → Regroup b c (pred_ℤ a)
regroup_pred b c a h =
    ap (λ x. x *ℤ c) (pred_ℤ-*ℤ a b)
    ∙ *ℤ_distr (a *ℤ b) (neg_ℤ b) c
    ∙ ap (λ x. x +ℤ neg_ℤ b *ℤ c) h
    ∙ ap (λ x. a *ℤ (b *ℤ c) +ℤ x) (*ℤ_negl b c)
    ∙ sym (pred_ℤ-*ℤ a (b *ℤ c))

pub *ℤ_assoc : (a b c : ℤ) → (a *ℤ b) *ℤ c ≡ a *ℤ (b *ℤ c)
*ℤ_assoc a b c = induct (Regroup b c) nought (regroup_suc b c) (regroup_pred b c) a
  where
    nought : Regroup b c (pos zero)
    nought = ap (λ x. x *ℤ c) (zero-*ℤ b) ∙ zero-*ℤ c ∙ sym (zero-*ℤ (b *ℤ c))

-- a use: a sum times c, and again
twice_by : (a b c : ℤ) → (a +ℤ b) *ℤ c *ℤ c ≡ a *ℤ (c *ℤ c) +ℤ b *ℤ (c *ℤ c)
twice_by a b c = *ℤ_assoc (a +ℤ b) c c ∙ *ℤ_distr a b (c *ℤ c)
