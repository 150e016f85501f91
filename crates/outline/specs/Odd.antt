-- An odd number of the numbers below n, as a truth value: each that counts turns it over.
use Rattle.std.specs.Prelude.{◌≡◌, refl, Bool, true, false, not, ℕ, zero, suc, ◌+◌, ◌*◌, ◌<◌, T}
use Rattle.std.proofs.Common.{sym, ap, ◌∙◌, subst, inl, inr, arith}
use Rattle.outline.specs.InOrOn.{Count, OddCount}
use Rattle.outline.specs.Tells.{Tells, is_yes, is_no}

infixl 36 ◌⊕◌
abbrev pub ◌⊕◌ : Bool → Bool → Bool
true ⊕ b = not b
false ⊕ b = b

abbrev pub odd : (ℕ → Bool) → ℕ → Bool
odd p zero = false
odd p (suc k) = p k ⊕ odd p k

-- ---- a number by itself
abbrev parity : ℕ → Bool
parity zero = false
parity (suc m) = not (parity m)

twice : (b : Bool) → not (not b) ≡ b
twice true = refl
twice false = refl

parity_odd : (h : ℕ) → parity (2 * h + 1) ≡ true
parity_odd zero = refl
parity_odd (suc h) =
    let e : 2 * suc h + 1 ≡ suc (suc (2 * h + 1)) = omega arith in
    ap parity e ∙ twice (parity (2 * h + 1)) ∙ parity_odd h

odd_parity : (m : ℕ) → T (parity m) → (h : ℕ) × (m ≡ 2 * h + 1)
odd_parity zero t = absurd t
odd_parity (suc zero) t = (0, refl)
odd_parity (suc (suc m)) t =
    let k = odd_parity m (subst T (twice (parity m)) t) in
    (suc k.0, omega (arith, k.1))

-- ---- a test that tells of each
module _ (P : ℕ → Type 0) where
  not_counted : (n m : ℕ) → ¬ P n → Count P n m → Count P (suc n) m
  not_counted n zero h c = (h, c)
  not_counted n (suc m) h c = inr (h, c)

  one_more : (n : ℕ) {b : Bool} → Tells b (P n) → (m : ℕ) × Count P n m → (m : ℕ) × Count P (suc n) m
  one_more n {b = true} t c = (suc c.0, inl (t.sure tt, c.1))
  one_more n {b = false} t c = (c.0, not_counted n c.0 (λ q. t.told q) c.1)

module _ (P : ℕ → Type 0) (p : ℕ → Bool) where
  abbrev Told : ℕ → Type 0
  Told n = (i : ℕ) → i < n → Tells (p i) (P i)

  fewer : (n : ℕ) → Told (suc n) → Told n
  fewer n f i h = f i (omega arith)

  count_parity : (n m : ℕ) → Told n → Count P n m → odd p n ≡ parity m
  count_parity zero m f c = ap parity (sym c)
  count_parity (suc n) zero f c =
      ap (λ t. t ⊕ odd p n) (is_no (f n (omega arith)) c.0) ∙ count_parity n zero (fewer n f) c.1
  count_parity (suc n) (suc m) f (inl c) =
      ap (λ t. t ⊕ odd p n) (is_yes (f n (omega arith)) c.0) ∙ ap not (count_parity n m (fewer n f) c.1)
  count_parity (suc n) (suc m) f (inr c) =
      ap (λ t. t ⊕ odd p n) (is_no (f n (omega arith)) c.0) ∙ count_parity n (suc m) (fewer n f) c.1

  counted : (n : ℕ) → Told n → (m : ℕ) × Count P n m
  counted zero f = (0, refl)
  counted (suc n) f = one_more P n (f n (omega arith)) (counted n (fewer n f))

  pub odd_tells : (n : ℕ) → Told n → Tells (odd p n) (OddCount P n)
  odd_tells n f = record { sure = there; told = back }
    where
      there : T (odd p n) → OddCount P n
      there t =
          let c = counted n f in
          let h = odd_parity c.0 (subst T (count_parity n c.0 f c.1) t) in
          (h.0, subst (Count P n) h.1 c.1)

      back : OddCount P n → T (odd p n)
      back c = subst T (sym (count_parity n (2 * c.0 + 1) f c.1 ∙ parity_odd c.0)) tt
