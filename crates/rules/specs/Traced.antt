-- The cutting of a table, traced from the whole range down: a set of pairs that has the whole range, and with each of
-- its pairs the lines of the piece that is chosen there, and no other. The order of gathering does not matter.
use Rattle.std.specs.Prelude.{◌≡◌, ◌⊎◌, List, [], ◌∷◌, ℕ, suc, ◌+◌, ◌≤◌, ◌<◌, T}
use Rattle.std.proofs.Common.{inl, inr, arith}
use Rattle.rules.specs.Cutting.{Pairs}
use Rattle.rules.specs.Lists.{rise_le}
use Rattle.rules.specs.Table.{Road, road_rise, Closes}

-- c d is a line of the road from a along s
abbrev pub LineOfRoad : ℕ → List ℕ → ℕ → ℕ → Type 0
LineOfRoad a [] c d = ⊥
LineOfRoad a (b ∷ s) c d = ((c ≡ a) × (d ≡ b)) ⊎ LineOfRoad b s c d

-- the line from the first of the corners 0 .. m to the last
abbrev pub Whole : ℕ → ℕ → ℕ → Type 0
Whole m i j = (i ≡ 0) × (j ≡ m)

-- the ranges i j with `seen i j` have been looked at
pub record Traced (cut may : ℕ → ℕ → Type 0) (choice : ℕ → ℕ → List ℕ) (m : ℕ) (seen : ℕ → ℕ → Type 0) (M : Pairs) :
    Type 0 where
  pub whole : T (M 0 m)
  pub ways : (c d : ℕ) → T (M c d) → (suc c < d) × (d < suc m) × may c d × Closes cut (suc m) c d
  pub up : (c d : ℕ) → T (M c d) →
      Whole m c d ⊎ ((i : ℕ) × (j : ℕ) × T (M i j) × LineOfRoad i (choice i j) c d × (d + i < j + c))
  pub down : (i j c d : ℕ) → seen i j → T (M i j) → LineOfRoad i (choice i j) c d → suc c < d → T (M c d)

-- ---- a road's lines lie between its ends
pub on_within : (way : ℕ → ℕ → Type 0) (a j : ℕ) (s : List ℕ) → Road way a j s → (c d : ℕ) → LineOfRoad a s c d →
    (a ≤ c) × (c < d) × (d ≤ j) × way c d
on_within way a j [] r c d h = absurd h
on_within way a j (b ∷ s) r c d (inl e) =
    let le = rise_le b j s (road_rise way b j s r.2) in
    (omega (arith, e.0), omega (arith, e.0, e.1, r.0), omega (arith, e.1), rw (e.0, e.1) r.1)
on_within way a j (b ∷ s) r c d (inr h) =
    let q = on_within way b j s r.2 c d h in
    (omega (arith, q.0, r.0), q.1, q.2, q.3)
