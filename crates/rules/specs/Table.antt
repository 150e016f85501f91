-- A table with the Bellman property gives the first of the lightest trees of every range, and an entry wherever there
-- is a tree. For each line on which a range can stand it says whether it has an entry (`may`), a value (`val`) and a
-- chosen piece (`choice`, its corners after the first). The value is the least weight of a piece together with the
-- values under its lines; the chosen piece is the first that attains it. No program occurs here: whatever fills such a
-- table has found the answer.
-- (The theorems that follow are in proofs/, under the same name.)
use Rattle.std.specs.Prelude.{◌≡◌, ◌⊎◌, List, [], ◌∷◌, ℕ, zero, suc, ◌+◌, ◌<◌}
use Rattle.std.proofs.Common.{arith}
use Rattle.rules.specs.Lists.{Rise, rise_le}
use Rattle.rules.specs.Cutting.{Tree, leaf, link}
use Rattle.rules.specs.Cheapest.{Cheapest}

-- ---- a road: rising corners after a, the last of them j, each line of which may be taken
abbrev pub Road : (ℕ → ℕ → Type 0) → ℕ → ℕ → List ℕ → Type 0
Road way a j [] = a ≡ j
Road way a j (b ∷ s) = (a < b) × way a b × Road way b j s

pub road_rise : (way : ℕ → ℕ → Type 0) (a j : ℕ) (s : List ℕ) → Road way a j s → Rise a j s
road_rise way a j [] h = h
road_rise way a j (b ∷ s) h = (h.0, road_rise way b j s h.2)

-- the values of its lines
abbrev pub sum : (ℕ → ℕ → ℕ) → ℕ → List ℕ → ℕ
sum val a [] = 0
sum val a (b ∷ s) = val a b + sum val b s

-- the first corner, if any, is below top
abbrev pub Head : ℕ → List ℕ → Type 0
Head top [] = Unit {0}
Head top (b ∷ s) = b < top

pub rise_head : (a j : ℕ) (s : List ℕ) → Rise a j s → Head (suc j) s
rise_head a j [] h = tt
rise_head a j (b ∷ s) h = omega (arith, rise_le b j s h.1)

-- ---- the table
module _ (cut may : ℕ → ℕ → Type 0) where
  -- a line under which something can stand: a side, or a range with an entry
  abbrev pub Way : ℕ → ℕ → Type 0
  Way a b = (b ≡ suc a) ⊎ (cut a b × may a b)

  -- the corners after i of an allowed piece on the line i j, i < j, with at least one corner between
  abbrev pub Piece : (List ℕ → Type 0) → ℕ → ℕ → List ℕ → Type 0
  Piece ok i j s = (Head j s × ok (i ∷ s)) × Road Way i j s

-- a line on which a range can stand: 01's "joined by a cut, or 0..n-1"
abbrev pub Closes : (ℕ → ℕ → Type 0) → ℕ → ℕ → ℕ → Type 0
Closes cut n i j = cut i j ⊎ ((i ≡ 0) × (suc j ≡ n))

-- the Bellman property, for n corners; nothing is asked of lines on which no range can stand
pub record Table (cut : ℕ → ℕ → Type 0) (ok : List ℕ → Type 0) (w : ℕ → ℕ → ℕ)
    (may : ℕ → ℕ → Type 0) (val : ℕ → ℕ → ℕ) (choice : ℕ → ℕ → List ℕ) (n : ℕ) : Type 0 where
  pub side_val : (a : ℕ) → suc a < n → val a (suc a) ≡ 0
  pub side_choice : (a : ℕ) → suc a < n → choice a (suc a) ≡ []
  pub range : (i j : ℕ) → suc i < j → j < n → Closes cut n i j →
      Cheapest (Piece cut may ok i j) (λ s. w i j + sum val i s) (λ s. s) (may i j) (val i j) (choice i j)

-- ---- the tree of the chosen pieces; f bounds its depth
abbrev pub walk : (ℕ → ℕ → Tree) → ℕ → List ℕ → Tree
walk g a [] = leaf
walk g a (b ∷ s) = link b (g a b) (walk g b s)

abbrev pub grow : (ℕ → ℕ → List ℕ) → ℕ → ℕ → ℕ → Tree
grow choice zero a b = leaf
grow choice (suc f) a b = walk (grow choice f) a (choice a b)

abbrev pub grown : (ℕ → ℕ → List ℕ) → ℕ → ℕ → Tree
grown choice i j = grow choice (suc j) i j
