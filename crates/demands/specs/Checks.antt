-- Checks, computed: of every member of a list; and in an order, the number of the first that fails, against
-- `FirstFailed` of `rules`.
use Rattle.std.specs.Prelude.{◌≡◌, refl, Bool, true, false, List, [], ◌∷◌, ℕ, T}
use Rattle.std.proofs.Common.{sym, subst, inl, inr}
use Rattle.outline.specs.Tells.{Tells}
use Rattle.rules.specs.Lists.{In}
use Rattle.rules.specs.Refusals.{Line, line, FirstFailed}

-- ---- one test of every member
module _ {A : Type 0} (p : A → Bool) where
  abbrev pub every : List A → Bool
  every [] = true
  every (x ∷ l) = elim (p x) as (λ b. Bool) [ true ↦ every l | false ↦ false ]

  pub every_passes : (l : List A) → T (every l) → (x : A) → In x l → T (p x)
  every_passes [] h x i = absurd i
  every_passes (y ∷ l) h x i = go (p y) refl h i (every_passes l)
    where
      go : (b : Bool) → p y ≡ b → T (elim b as (λ b. Bool) [ true ↦ every l | false ↦ false ]) → In x (y ∷ l) →
          (T (every l) → (x : A) → In x l → T (p x)) → T (p x)
      go true e h (inl s) f = subst (λ z. T (p z)) (sym s) (subst T (sym e) tt)
      go true e h (inr i) f = f h x i
      go false e h i f = absurd h

-- ---- checks in an order, each with its number
-- Each waits under a λ: none is computed after the first that fails.
abbrev pub Check : Type 0
Check = ℕ × (Unit {0} → Bool)

abbrev pub first_failed : List Check → ℕ
first_failed [] = 0
first_failed (c ∷ l) = elim (c.1 tt) as (λ x. ℕ) [ true ↦ first_failed l | false ↦ c.0 ]

-- the checks tell what the lines ask, each where all before it hold
pub data Checked : List Check → List Line → Type 1 where
  end : Checked [] []
  then : {test : Unit {0} → Bool} {P : Type 0} {i : ℕ} {k : List Check} {l : List Line} → Tells (test tt) P →
      (P → Checked k l) →
      Checked ((i, test) ∷ k) (line i P ∷ l)

pub failed_is : {k : List Check} {l : List Line} → Checked k l → FirstFailed l (first_failed k)
failed_is end = refl
failed_is (then {test} {P} {i} {k} {l} t rest) = go (test tt) t (λ q. failed_is (rest q))
  where
    go : (a : Bool) → Tells a P → (P → FirstFailed l (first_failed k)) →
        FirstFailed (line i P ∷ l) (elim a as (λ x. ℕ) [ true ↦ first_failed k | false ↦ i ])
    go true t f = let q = t.sure tt in inr (q, f q)
    go false t f = inl (t.told, refl)
