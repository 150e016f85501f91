-- The order of whole numbers. An order is the sign of a difference (`le_sub`, `sub_le`, `lt_sub`, `sub_lt`), and the
-- solver rewrites differences: to prove a ≤ b, write b - a as a sum of products of numbers that are not negative.
use Rattle.std.specs.Prelude.{◌≡◌, refl, Bool, true, false, not, ◌⊎◌, [], ◌∷◌, ℕ, zero, suc, ◌+◌, ◌*◌, T, ℤ, pos, negsuc, neg_ℤ, ◌+ℤ◌, ◌-ℤ◌, ◌*ℤ◌, ◌≤ℤ◌, ◌<ℤ◌}
use Rattle.std.proofs.Common.{sym, ◌∙◌, ap, subst, inl, inr}
use Rattle.std.proofs.Math.Dec.{leb-zero, leb-suc-zero, leb-suc-suc}
use Rattle.std.proofs.Math.IntN.{suc_ℤ, pred_ℤ, suc-pred, +ℤ_comm, +ℤ_idr, +ℤ_invr, +ℤ_one, +ℤ-suc_ℤ, +ℤ-pred_ℤ, *ℤ-zero}
use Rattle.std.specs.Int.Signed.{le_z, lt_z, lt_z_no, le_z_yes, lt_z_yes, <ℤ_irrefl, clash_ℤ}
use Rattle.whole.specs.Laws.{induct}
use Rattle.whole.specs.Ring.{v, con, ◌:+◌, ◌:-◌, ◌:*◌, neg, ring, by_ring}

-- ---- adding the same number to both keeps the order
le_suc : (a b : ℤ) → le_z (suc_ℤ a) (suc_ℤ b) ≡ le_z a b
le_suc (pos a) (pos b) = leb-suc-suc a b
le_suc (pos a) (negsuc zero) = leb-suc-zero a
le_suc (pos a) (negsuc (suc b)) = refl
le_suc (negsuc zero) (pos b) = leb-zero (suc b)
le_suc (negsuc (suc a)) (pos b) = refl
le_suc (negsuc zero) (negsuc zero) = refl
le_suc (negsuc zero) (negsuc (suc b)) = sym (leb-suc-zero b)
le_suc (negsuc (suc a)) (negsuc zero) = sym (leb-zero (suc a))
le_suc (negsuc (suc a)) (negsuc (suc b)) = sym (leb-suc-suc b a)

le_pred : (a b : ℤ) → le_z (pred_ℤ a) (pred_ℤ b) ≡ le_z a b
le_pred a b = sym (le_suc (pred_ℤ a) (pred_ℤ b)) ∙ rw (suc-pred a, suc-pred b)

le_add : (a b c : ℤ) → le_z (a +ℤ c) (b +ℤ c) ≡ le_z a b
le_add a b = induct (λ c. le_z (a +ℤ c) (b +ℤ c) ≡ le_z a b)
    (rw (+ℤ_idr a, +ℤ_idr b))
    (λ c h. rw (+ℤ-suc_ℤ a c, +ℤ-suc_ℤ b c) (le_suc (a +ℤ c) (b +ℤ c) ∙ h))
    (λ c h. rw (+ℤ-pred_ℤ a c, +ℤ-pred_ℤ b c) (le_pred (a +ℤ c) (b +ℤ c) ∙ h))

-- ---- so an order is the sign of a difference
le_diff : (a b : ℤ) → le_z (pos 0) (b -ℤ a) ≡ le_z a b
le_diff a b = ap (λ z. le_z z (b -ℤ a)) (sym (+ℤ_invr a)) ∙ le_add a b (neg_ℤ a)

-- a < b is a + 1 ≤ b
lt_suc : (a b : ℤ) → lt_z a b ≡ le_z (suc_ℤ a) b
lt_suc (pos a) (pos b) = refl
lt_suc (pos a) (negsuc b) = refl
lt_suc (negsuc zero) (pos b) = sym (leb-zero b)
lt_suc (negsuc (suc a)) (pos b) = refl
lt_suc (negsuc zero) (negsuc b) = leb-suc-zero b
lt_suc (negsuc (suc a)) (negsuc b) = leb-suc-suc b a

positive_is : (z : ℤ) → lt_z (pos 0) z ≡ le_z (pos 0) (z -ℤ pos 1)
positive_is z = lt_suc (pos 0) z ∙ sym (le_diff (pos 1) z)

lt_diff : (a b : ℤ) → lt_z (pos 0) (b -ℤ a) ≡ lt_z a b
lt_diff a b =
    positive_is (b -ℤ a)
    ∙ ap (le_z (pos 0)) (ring (a ∷ b ∷ []) (v 1 :- v 0 :- con (pos 1)) (v 1 :- (v 0 :+ con (pos 1))) refl)
    ∙ le_diff (a +ℤ pos 1) b
    ∙ ap (λ z. le_z z b) (+ℤ_one a)
    ∙ sym (lt_suc a b)

abbrev pub Nonneg : ℤ → Type 0
Nonneg z = pos 0 ≤ℤ z

abbrev pub Positive : ℤ → Type 0
Positive z = pos 0 <ℤ z

pub le_sub : {a b : ℤ} → a ≤ℤ b → Nonneg (b -ℤ a)
le_sub {a} {b} h = le_z_yes (subst T (sym (le_diff a b)) h.le)

pub sub_le : {a b : ℤ} → Nonneg (b -ℤ a) → a ≤ℤ b
sub_le {a} {b} h = le_z_yes (subst T (le_diff a b) h.le)

pub lt_sub : {a b : ℤ} → a <ℤ b → Positive (b -ℤ a)
lt_sub {a} {b} h = lt_z_yes (subst T (sym (lt_diff a b)) h.lt)

pub sub_lt : {a b : ℤ} → Positive (b -ℤ a) → a <ℤ b
sub_lt {a} {b} h = lt_z_yes (subst T (lt_diff a b) h.lt)

-- ---- signs
pub nonneg_pos : (n : ℕ) → Nonneg (pos n)
nonneg_pos n = le_z_yes (subst T (sym (leb-zero n)) tt)

pub positive_pos : (n : ℕ) → Positive (pos (suc n))
positive_pos n = lt_z_yes (subst T (sym (leb-suc-suc 0 n ∙ leb-zero n)) tt)

pub nonneg_add : {x y : ℤ} → Nonneg x → Nonneg y → Nonneg (x +ℤ y)
nonneg_add {x = pos a} {y = pos b} h k = nonneg_pos (a + b)
nonneg_add {x = pos a} {y = negsuc b} h k = absurd k.le
nonneg_add {x = negsuc a} {y} h k = absurd h.le

pub nonneg_mul : {x y : ℤ} → Nonneg x → Nonneg y → Nonneg (x *ℤ y)
nonneg_mul {x = pos a} {y = pos b} h k = nonneg_pos (a * b)
nonneg_mul {x = pos a} {y = negsuc b} h k = absurd k.le
nonneg_mul {x = negsuc a} {y} h k = absurd h.le

-- a positive number is one more than one that is not negative
pub positive_pred : {x : ℤ} → Positive x → Nonneg (x -ℤ pos 1)
positive_pred {x} h = le_z_yes (subst T (positive_is x) h.lt)

pub pred_positive : {x : ℤ} → Nonneg (x -ℤ pos 1) → Positive x
pred_positive {x} h = lt_z_yes (subst T (sym (positive_is x)) h.le)

pub positive_nonneg : {x : ℤ} → Positive x → Nonneg x
positive_nonneg {x} h =
    by_ring (x ∷ []) Nonneg (v 0 :- con (pos 1) :+ con (pos 1)) (v 0) refl
    (nonneg_add (positive_pred h) (nonneg_pos 1))

pub positive_add : {x y : ℤ} → Positive x → Nonneg y → Positive (x +ℤ y)
positive_add {x} {y} h k =
    pred_positive (by_ring (x ∷ y ∷ []) Nonneg (v 0 :- con (pos 1) :+ v 1) (v 0 :+ v 1 :- con (pos 1)) refl
    (nonneg_add (positive_pred h) k))

-- xy - 1 = (x - 1)(y - 1) + (x - 1) + (y - 1)
pub positive_mul : {x y : ℤ} → Positive x → Positive y → Positive (x *ℤ y)
positive_mul {x} {y} h k =
    pred_positive (by_ring (x ∷ y ∷ []) Nonneg
    ((v 0 :- con (pos 1)) :* (v 1 :- con (pos 1)) :+ (v 0 :- con (pos 1)) :+ (v 1 :- con (pos 1)))
    (v 0 :* v 1 :- con (pos 1)) refl
    (nonneg_add (nonneg_add (nonneg_mul (positive_pred h) (positive_pred k)) (positive_pred h)) (positive_pred k)))

pub data Sign (z : ℤ) : Type 0 where
  plus : Positive z → Sign z
  nought : z ≡ pos 0 → Sign z
  minus : Positive (neg_ℤ z) → Sign z

pub sign : (z : ℤ) → Sign z
sign (pos zero) = nought refl
sign (pos (suc n)) = plus (positive_pos n)
sign (negsuc n) = minus (positive_pos n)

pub below : {z : ℤ} → Positive (neg_ℤ z) → z <ℤ pos 0
below {z} h = sub_lt (by_ring (z ∷ []) Positive (neg (v 0)) (con (pos 0) :- v 0) refl h)

-- not both z > 0 and -z ≥ 0
pub positive_not : {X : Type 0} {z : ℤ} → Positive z → Nonneg (neg_ℤ z) → X
positive_not {z} h k =
    absurd (<ℤ_irrefl (by_ring (z ∷ []) Positive (v 0 :+ neg (v 0)) (con (pos 0)) refl (positive_add h k)))

pub positive_or : {z : ℤ} → Nonneg z → Positive z ⊎ (z ≡ pos 0)
positive_or {z} h = go (sign z)
  where
    go : Sign z → Positive z ⊎ (z ≡ pos 0)
    go (plus p) = inl p
    go (nought e) = inr e
    go (minus p) = positive_not p (by_ring (z ∷ []) Nonneg (v 0) (neg (neg (v 0))) refl h)

pub nonneg_zero : {z : ℤ} → Nonneg z → Nonneg (neg_ℤ z) → z ≡ pos 0
nonneg_zero {z} h k = go (positive_or h)
  where
    go : Positive z ⊎ (z ≡ pos 0) → z ≡ pos 0
    go (inl p) = positive_not p k
    go (inr e) = e

-- a product of equal factors
pub square_nonneg : (z : ℤ) → Nonneg (z *ℤ z)
square_nonneg z = go (sign z)
  where
    go : Sign z → Nonneg (z *ℤ z)
    go (plus p) = positive_nonneg (positive_mul p p)
    go (nought e) = subst (λ y. Nonneg (y *ℤ y)) (sym e) (nonneg_pos 0)
    go (minus p) =
        by_ring (z ∷ []) Nonneg (neg (v 0) :* neg (v 0)) (v 0 :* v 0) refl (positive_nonneg (positive_mul p p))

-- ---- the order's laws
pub ≤ℤ_trans : {a b c : ℤ} → a ≤ℤ b → b ≤ℤ c → a ≤ℤ c
≤ℤ_trans {a} {b} {c} h k =
    sub_le (by_ring (a ∷ b ∷ c ∷ []) Nonneg (v 1 :- v 0 :+ (v 2 :- v 1)) (v 2 :- v 0) refl
    (nonneg_add (le_sub h) (le_sub k)))

pub ≤ℤ_<ℤ_trans : {a b c : ℤ} → a ≤ℤ b → b <ℤ c → a <ℤ c
≤ℤ_<ℤ_trans {a} {b} {c} h k =
    sub_lt (by_ring (a ∷ b ∷ c ∷ []) Positive (v 2 :- v 1 :+ (v 1 :- v 0)) (v 2 :- v 0) refl
    (positive_add (lt_sub k) (le_sub h)))

pub <ℤ_le : {a b : ℤ} → a <ℤ b → a ≤ℤ b
<ℤ_le h = sub_le (positive_nonneg (lt_sub h))

pub ≤ℤ_total : (a b : ℤ) → (a ≤ℤ b) ⊎ (b <ℤ a)
≤ℤ_total a b = go (lt_z b a) refl
  where
    go : (t : Bool) → lt_z b a ≡ t → (a ≤ℤ b) ⊎ (b <ℤ a)
    go true e = inr (lt_z_yes (subst T (sym e) tt))
    go false e = inl (lt_z_no (subst (λ t. T (not t)) (sym e) tt))

pub not_less : {a b : ℤ} → ¬ (b <ℤ a) → a ≤ℤ b
not_less {a} {b} n = go (≤ℤ_total a b)
  where
    go : (a ≤ℤ b) ⊎ (b <ℤ a) → a ≤ℤ b
    go (inl h) = h
    go (inr h) = absurd (n h)

-- two numbers with no difference are one number
pub diff_zero : (a b : ℤ) → a -ℤ b ≡ pos 0 → a ≡ b
diff_zero a b e = ring (a ∷ b ∷ []) (v 0) (v 1 :+ (v 0 :- v 1)) refl ∙ ap (λ z. b +ℤ z) e ∙ +ℤ_idr b

pub ≤ℤ_antisym : {a b : ℤ} → a ≤ℤ b → b ≤ℤ a → a ≡ b
≤ℤ_antisym {a} {b} h k =
    diff_zero a b
    (nonneg_zero (le_sub k) (by_ring (a ∷ b ∷ []) Nonneg (v 1 :- v 0) (neg (v 0 :- v 1)) refl (le_sub h)))

pub ≤ℤ_strict : {a b : ℤ} → a ≤ℤ b → ¬ (a ≡ b) → a <ℤ b
≤ℤ_strict {a} {b} h n = go (≤ℤ_total b a)
  where
    go : (b ≤ℤ a) ⊎ (a <ℤ b) → a <ℤ b
    go (inl k) = absurd (n (≤ℤ_antisym h k))
    go (inr k) = k

pub +ℤ_mono : {a b c d : ℤ} → a ≤ℤ b → c ≤ℤ d → (a +ℤ c) ≤ℤ (b +ℤ d)
+ℤ_mono {a} {b} {c} {d} h k =
    sub_le (by_ring (a ∷ b ∷ c ∷ d ∷ []) Nonneg (v 1 :- v 0 :+ (v 3 :- v 2)) (v 1 :+ v 3 :- (v 0 :+ v 2)) refl
    (nonneg_add (le_sub h) (le_sub k)))

pub *ℤ_mono : {k a b : ℤ} → Nonneg k → a ≤ℤ b → (k *ℤ a) ≤ℤ (k *ℤ b)
*ℤ_mono {k} {a} {b} n h =
    sub_le (by_ring (k ∷ a ∷ b ∷ []) Nonneg (v 0 :* (v 2 :- v 1)) (v 0 :* v 2 :- v 0 :* v 1) refl
    (nonneg_mul n (le_sub h)))

-- where the sum of two squares is not above zero, both numbers are zero
square_zero : (x y : ℤ) → (x *ℤ x +ℤ y *ℤ y) ≤ℤ pos 0 → x ≡ pos 0
square_zero x y h = go (sign x)
  where
    never : Positive (x *ℤ x) → x ≡ pos 0
    never p = clash_ℤ (positive_add p (square_nonneg y)) h

    go : Sign x → x ≡ pos 0
    go (plus p) = never (positive_mul p p)
    go (nought e) = e
    go (minus p) = never (by_ring (x ∷ []) Positive (neg (v 0) :* neg (v 0)) (v 0 :* v 0) refl (positive_mul p p))

pub squares_zero : (x y : ℤ) → (x *ℤ x +ℤ y *ℤ y) ≤ℤ pos 0 → (x ≡ pos 0) × (y ≡ pos 0)
squares_zero x y h = (square_zero x y h, square_zero y x (subst (λ z. z ≤ℤ pos 0) (+ℤ_comm (x *ℤ x) (y *ℤ y)) h))

-- ---- cancelling a factor
pub nonneg_cancel : {k z : ℤ} → Positive k → Nonneg (k *ℤ z) → Nonneg z
nonneg_cancel {k} {z} p h = go (sign z)
  where
    go : Sign z → Nonneg z
    go (plus q) = positive_nonneg q
    go (nought e) = subst Nonneg (sym e) (nonneg_pos 0)
    go (minus q) =
        positive_not (positive_mul p q) (by_ring (k ∷ z ∷ []) Nonneg (v 0 :* v 1) (neg (v 0 :* neg (v 1))) refl h)

pub positive_cancel : {k z : ℤ} → Nonneg k → Positive (k *ℤ z) → Positive z
positive_cancel {k} {z} p h = go (sign z)
  where
    go : Sign z → Positive z
    go (plus q) = q
    go (nought e) = absurd (<ℤ_irrefl (subst Positive (ap (λ y. k *ℤ y) e ∙ *ℤ-zero k) h))
    go (minus q) =
        positive_not h
        (by_ring (k ∷ z ∷ []) Nonneg (v 0 :* neg (v 1)) (neg (v 0 :* v 1)) refl (nonneg_mul p (positive_nonneg q)))

pub le_cancel : {k a b : ℤ} → Positive k → (k *ℤ a) ≤ℤ (k *ℤ b) → a ≤ℤ b
le_cancel {k} {a} {b} p h =
    sub_le (nonneg_cancel p
    (by_ring (k ∷ a ∷ b ∷ []) Nonneg (v 0 :* v 2 :- v 0 :* v 1) (v 0 :* (v 2 :- v 1)) refl (le_sub h)))

pub zero_cancel : {k z : ℤ} → Positive k → k *ℤ z ≡ pos 0 → z ≡ pos 0
zero_cancel {k} {z} p e =
    nonneg_zero (nonneg_cancel p (subst Nonneg (sym e) (nonneg_pos 0)))
    (nonneg_cancel p (by_ring (k ∷ z ∷ []) Nonneg (neg (v 0 :* v 1)) (v 0 :* neg (v 1)) refl
    (subst (λ x. Nonneg (neg_ℤ x)) (sym e) (nonneg_pos 0))))

-- ---- a use: 2ab ≤ a² + b², because the difference is the square of a - b
double_product : (a b : ℤ) → (pos 2 *ℤ (a *ℤ b)) ≤ℤ (a *ℤ a +ℤ b *ℤ b)
double_product a b =
    sub_le (by_ring (a ∷ b ∷ []) Nonneg ((v 0 :- v 1) :* (v 0 :- v 1))
    (v 0 :* v 0 :+ v 1 :* v 1 :- con (pos 2) :* (v 0 :* v 1)) refl
    (square_nonneg (a -ℤ b)))
