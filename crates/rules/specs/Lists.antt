-- Lists: members, lists without repeats, rising lists.
use Rattle.std.specs.Prelude.{◌≡◌, ◌⊎◌, ℕ, suc, ◌≤◌, ◌<◌, length}
use Rattle.std.proofs.Math.Path.{refl, sym}
use Rattle.std.proofs.Common.{ap₂, ◌∙◌, subst, ⊎_elim, arith}
use Rattle.std.proofs.Math.Logic.{inl, inr, ⊎_map}
use mathlib.Core.List.{List, [], ◌∷◌, ◌++◌}

-- ---- members. A function and not a family, so that a proof goes by its two cases without an equation of lists to
-- solve.
module _ {A : Type 0} where
  abbrev pub In : A → List A → Type 0
  In x [] = ⊥
  In x (y ∷ s) = (x ≡ y) ⊎ In x s

  pub in_left : (x : A) (s t : List A) → In x s → In x (s ++ t)
  in_left x [] t h = absurd h
  in_left x (y ∷ s) t (inl e) = inl e
  in_left x (y ∷ s) t (inr h) = inr (in_left x s t h)

  pub in_right : (x : A) (s t : List A) → In x t → In x (s ++ t)
  in_right x [] t h = h
  in_right x (y ∷ s) t h = inr (in_right x s t h)

  pub in_split : (x : A) (s t : List A) → In x (s ++ t) → In x s ⊎ In x t
  in_split x [] t h = inr h
  in_split x (y ∷ s) t (inl e) = inl (inl e)
  in_split x (y ∷ s) t (inr h) = ⊎_map inr (λ k. k) (in_split x s t h)

  -- what holds of the members of both parts holds of those of the whole
  pub in_both : (P : A → Type 0) (s t : List A) → ((x : A) → In x s → P x) → ((x : A) → In x t → P x) → (x : A) →
      In x (s ++ t) → P x
  in_both P s t f g x h = ⊎_elim (f x) (g x) (in_split x s t h)

  -- ---- each member once
  abbrev pub Distinct : List A → Type 0
  Distinct [] = Unit {0}
  Distinct (x ∷ l) = (In x l → ⊥) × Distinct l

  pub distinct_append : (l m : List A) → Distinct l → Distinct m → ((x : A) → In x l → In x m → ⊥) → Distinct (l ++ m)
  distinct_append [] m dl dm f = dm
  distinct_append (x ∷ l) m dl dm f = (
    λ i. ⊎_elim dl.0 (f x (inl refl)) (in_split x l m i),
    distinct_append l m dl.1 dm (λ y i k. f y (inr i) k),
  )

  without : (y : A) (l : List A) → In y l → List A
  without y [] h = []
  without y (x ∷ l) (inl e) = l
  without y (x ∷ l) (inr h) = x ∷ without y l h

  length_without : (y : A) (l : List A) (h : In y l) → length l ≡ suc (length (without y l h))
  unfolding without
  length_without y [] h = absurd h
  length_without y (x ∷ l) (inl e) = refl
  length_without y (x ∷ l) (inr h) = omega (arith, length_without y l h)

  in_without : (y z : A) (l : List A) (h : In y l) → In z l → (z ≡ y → ⊥) → In z (without y l h)
  unfolding without
  in_without y z [] h k ne = k
  in_without y z (x ∷ l) (inl e) (inl e') ne = absurd (ne (e' ∙ sym e))
  in_without y z (x ∷ l) (inl e) (inr k) ne = k
  in_without y z (x ∷ l) (inr h) (inl e') ne = inl e'
  in_without y z (x ∷ l) (inr h) (inr k) ne = inr (in_without y z l h k ne)

-- a list without repeats that goes one to one into another is no longer than it
pub pigeon : {A B : Type 0} (f : A → B) (l : List A) (m : List B) → Distinct l → ((x : A) → In x l → In (f x) m) →
    ((x y : A) → In x l → In y l → f x ≡ f y → x ≡ y) → length l ≤ length m
pigeon f [] m d into inj = omega arith
pigeon f (x ∷ l) m d into inj =
    let h = into x (inl refl) in
    omega (
      arith,
      length_without (f x) m h,
      pigeon f l (without (f x) m h) d.1
          (λ y i. in_without (f x) (f y) m h (into y (inr i))
          (λ e. d.0 (subst (λ z. In z l) (inj y x (inr i) (inl refl) e) i)))
          (λ y z i k e. inj y z (inr i) (inr k) e),
    )

-- ---- rising lists of numbers
abbrev pub Rising : List ℕ → Type 0
Rising [] = Unit {0}
Rising (a ∷ s) = ((z : ℕ) → In z s → a < z) × Rising s

pub rising_append : (s t : List ℕ) → Rising s → Rising t → ((x y : ℕ) → In x s → In y t → x < y) → Rising (s ++ t)
rising_append [] t r r' f = r'
rising_append (x ∷ s) t r r' f = (
  in_both (λ z. x < z) s t r.0 (λ z i. f x z (inl refl) i),
  rising_append s t r.1 r' (λ y z i k. f y z (inr i) k),
)

-- rising lists with the same members are the same
pub rising_ext : (s t : List ℕ) → Rising s → Rising t → ((z : ℕ) → In z s → In z t) →
    ((z : ℕ) → In z t → In z s) → s ≡ t
rising_ext [] [] r r' f g = refl
rising_ext [] (y ∷ t) r r' f g = absurd (g y (inl refl))
rising_ext (x ∷ s) [] r r' f g = absurd (f x (inl refl))
rising_ext (x ∷ s) (y ∷ t) r r' f g =
    ap₂ ◌∷◌ same (rising_ext s t r.1 r'.1 (λ z i. drop y t z (omega (arith, r.0 z i, same)) (f z (inr i)))
    (λ z i. drop x s z (omega (arith, r'.0 z i, same)) (g z (inr i))))
  where
    least : (x y : ℕ) (t : List ℕ) → ((z : ℕ) → In z t → y < z) → In x (y ∷ t) → y ≤ x
    least x y t h (inl e) = omega arith
    least x y t h (inr i) = omega (arith, h x i)

    same : x ≡ y
    same = omega (arith, least x y t r'.0 (f x (inl refl)), least y x s r.0 (g y (inl refl)))

    drop : (y : ℕ) (t : List ℕ) (z : ℕ) → y < z → In z (y ∷ t) → In z t
    drop y t z lt (inl e) = absurd (omega arith)
    drop y t z lt (inr k) = k

-- a rising list after a whose last number is j (which is a where the list is empty)
abbrev pub Rise : ℕ → ℕ → List ℕ → Type 0
Rise a j [] = a ≡ j
Rise a j (b ∷ s) = (a < b) × Rise b j s

pub rise_le : (a j : ℕ) (s : List ℕ) → Rise a j s → a ≤ j
rise_le a j [] h = omega arith
rise_le a j (b ∷ s) h = omega (arith, rise_le b j s h.1)

pub rise_in : (a j : ℕ) (s : List ℕ) → Rise a j s → (z : ℕ) → In z s → (a < z) × (z ≤ j)
rise_in a j [] h z k = absurd k
rise_in a j (b ∷ s) h z (inl e) = let le = rise_le b j s h.1 in (omega (arith, h.0), omega arith)
rise_in a j (b ∷ s) h z (inr k) = let p = rise_in b j s h.1 z k in (omega (arith, h.0, p.0), p.1)

pub rise_from : (a j : ℕ) (s : List ℕ) → Rise a j s → (z : ℕ) → In z (a ∷ s) → (a ≤ z) × (z ≤ j)
rise_from a j s h z (inl e) = let le = rise_le a j s h in (omega arith, omega arith)
rise_from a j s h z (inr k) = let p = rise_in a j s h z k in (omega arith, omega arith)

pub rise_last : (a j : ℕ) (s : List ℕ) → Rise a j s → In j (a ∷ s)
rise_last a j [] h = inl (sym h)
rise_last a j (b ∷ s) h = inr (rise_last b j s h.1)

pub rise_rising : (a j : ℕ) (s : List ℕ) → Rise a j s → Rising (a ∷ s)
rise_rising a j [] h = ((λ z i. absurd i), tt)
rise_rising a j (b ∷ s) h = ((λ z i. (rise_in a j (b ∷ s) h z i).0), rise_rising b j s h.1)
