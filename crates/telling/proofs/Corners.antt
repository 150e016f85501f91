-- The corners of a piece, tested: `rules` and std have the same words for it.
use mathlib.Core.Path.{◌≡◌, refl, ap, ap₂, ◌∙◌}
use mathlib.Core.Bool.{Bool, true, false, ◌&&◌}
use mathlib.Core.List.{List, [], ◌∷◌, ◌++◌}
use mathlib.Core.Logic.{inl, inr}
use Prim.Native.Nat.{ℕ, zero, suc, ◌<◌}
use native.Mathlib.Omega.{arith}
use lib.ListN.{length, get_or}
use Rattle.rules.specs.Lists.{In}
use Rattle.std.specs.Prelude.{cond, Option, Some, None, unwrap_or}
use Rattle.std.specs.Option.{option_map}
use Rattle.std.specs.List.{list_all, find}
use Rattle.rules.specs.Lays.{all, first, centre, lay_all}

pub in_at : (S : List ℕ) (k d : ℕ) → k < length S → In (get_or S k d) S
in_at [] k d h = absurd (omega arith)
in_at (x ∷ S) zero d h = inl refl
in_at (x ∷ S) (suc k) d h = inr (in_at S k d (omega arith))

module _ (p : ℕ → Bool) where
  pub all_is : (S : List ℕ) → list_all p S ≡ all p S
  all_is [] = refl
  all_is (x ∷ S) = ap (λ b. p x && b) (all_is S)

  first_is : (S : List ℕ) → unwrap_or (find p S) 0 ≡ first p S
  first_is [] = refl
  first_is (x ∷ S) = by (p x) (first_is S)
    where
      by : (b : Bool) → unwrap_or (find p S) 0 ≡ first p S →
          unwrap_or (cond b (Some x) (find p S)) 0 ≡ elim b [ true ↦ x | false ↦ first p S ]
      by true e = refl
      by false e = e

  -- what is found, or 0
  pub found_first : (S : List ℕ) (r : Option ℕ) → option_map (λ x. x) r ≡ find p S → unwrap_or r 0 ≡ first p S
  found_first S None e = ap (λ q. unwrap_or q 0) e ∙ first_is S
  found_first S (Some x) e = ap (λ q. unwrap_or q 0) e ∙ first_is S

-- ---- tests that agree on the corners of pieces choose the same centres
all_same : (p q : ℕ → Bool) (S : List ℕ) → ((x : ℕ) → In x S → p x ≡ q x) → all p S ≡ all q S
all_same p q [] h = refl
all_same p q (x ∷ S) h = ap₂ ◌&&◌ (h x (inl refl)) (all_same p q S (λ y i. h y (inr i)))

first_same : (p q : ℕ → Bool) (S : List ℕ) → ((x : ℕ) → In x S → p x ≡ q x) → first p S ≡ first q S
first_same p q [] h = refl
first_same p q (x ∷ S) h =
    ap₂ (λ b (r : ℕ). elim b [ true ↦ x | false ↦ r ]) (h x (inl refl)) (first_same p q S (λ y i. h y (inr i)))

module _ (f g : ℕ → ℕ → Bool) where
  centre_same : (S : List ℕ) → ((x y : ℕ) → In x S → In y S → f x y ≡ g x y) → centre f S ≡ centre g S
  centre_same S h =
      first_same (λ x. all (f x) S) (λ x. all (g x) S) S (λ x i. all_same (f x) (g x) S (λ y k. h x y i k))

  pub lay_same : (l : List (List ℕ)) → ((S : List ℕ) → In S l → (x y : ℕ) → In x S → In y S → f x y ≡ g x y) →
      lay_all (centre f) l ≡ lay_all (centre g) l
  lay_same [] h = refl
  lay_same (S ∷ l) h =
      ap₂ (λ (k : ℕ) r. length S ∷ k ∷ (S ++ r)) (centre_same S (h S (inl refl))) (lay_same l (λ Q i. h Q (inr i)))
