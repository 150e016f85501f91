-- Centres and the layout of the answer: document 01, "Cuttings" (what a centre is, and which one is reported) and
-- "What comes back" (the bytes of a piece). `sees x y` is left open; 01 reads it as: x sees y in both drawings.
-- These are the definitions that a reader has to believe, with the law that the layout fixes every byte.
use Rattle.std.specs.Prelude.{◌≡◌, ◌⊎◌, List, [], ◌∷◌, ◌++◌, ℕ, ◌+◌, ◌≤◌, length}
use Rattle.std.proofs.Common.{sym, ap, ap₂, ◌∙◌, inl, inr, arith, length-append}
use Rattle.rules.specs.Lists.{In}

module _ (sees : ℕ → ℕ → Type 0) where
  -- "A centre of a piece is one of its own corners that sees every corner of it in both drawings."
  abbrev pub Centre : ℕ → List ℕ → Type 0
  Centre x S = In x S × ((y : ℕ) → In y S → sees x y)

  -- "every piece has a centre": what `Cutting` calls ok
  abbrev pub HasCentre : List ℕ → Type 0
  HasCentre S = (x : ℕ) × Centre x S

  -- "The centre reported is the lowest-numbered one."
  pub record Lowest (x : ℕ) (S : List ℕ) : Type 0 where
    pub centre : Centre x S
    pub lowest : (y : ℕ) → Centre y S → x ≤ y

  -- no second corner is
  pub lowest_one : (S : List ℕ) (x y : ℕ) → Lowest x S → Lowest y S → x ≡ y
  lowest_one S x y h k = omega (arith, h.lowest y k.centre, k.lowest x h.centre)

  -- for pieces that may have none: 0 stands in the place of a centre that there is not
  abbrev pub LowestOrZero : ℕ → List ℕ → Type 0
  LowestOrZero x S = Lowest x S ⊎ ((¬ HasCentre S) × (x ≡ 0))

  pub lowest_or_zero_one : (S : List ℕ) (x y : ℕ) → LowestOrZero x S → LowestOrZero y S → x ≡ y
  lowest_or_zero_one S x y (inl h) (inl k) = lowest_one S x y h k
  lowest_or_zero_one S x y (inl h) (inr k) = absurd (k.0 (x, h.centre))
  lowest_or_zero_one S x y (inr h) (inl k) = absurd (h.0 (y, k.centre))
  lowest_or_zero_one S x y (inr h) (inr k) = h.1 ∙ sym k.1

-- "Each piece takes 2+k bytes: k, the centre, the k corners in rising order; pieces follow in the telling order."
-- `centre c S` says that c is the corner that stands in the centre's place of S: 01 has `Lowest sees` for it.
module _ (centre : ℕ → List ℕ → Type 0) where
  abbrev pub Layout : List (List ℕ) → List ℕ → Type 0
  Layout [] bytes = bytes ≡ []
  Layout (S ∷ l) bytes = (c : ℕ) × (rest : List ℕ) × centre c S × (bytes ≡ length S ∷ c ∷ (S ++ rest)) × Layout l rest

  -- no second run of bytes is laid out so, where one corner at most stands in a centre's place
  pub layout_unique : ((S : List ℕ) (x y : ℕ) → centre x S → centre y S → x ≡ y) → (l : List (List ℕ)) (x y : List ℕ) →
      Layout l x → Layout l y → x ≡ y
  layout_unique one [] x y h k = h ∙ sym k
  layout_unique one (S ∷ l) x y h k =
      let r = layout_unique one l h.1 k.1 h.4 k.4 in
      h.3 ∙ ap₂ (λ a b. length S ∷ a ∷ (S ++ b)) (one S h.0 k.0 h.2 k.2) r ∙ sym k.3

-- what a list of pieces takes
abbrev pub size : List (List ℕ) → ℕ
size [] = 0
size (S ∷ l) = (2 + length S) + size l

pub layout_size : (centre : ℕ → List ℕ → Type 0) (l : List (List ℕ)) (x : List ℕ) →
    Layout centre l x → length x ≡ size l
layout_size centre [] x h = ap length h
layout_size centre (S ∷ l) x h =
    omega (arith, ap length h.3, length-append S h.1, layout_size centre l h.1 h.4)
