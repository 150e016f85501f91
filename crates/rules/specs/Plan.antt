-- A plan: what may be a cut, what may be a piece, what a piece weighs, and which corner stands in the centre's place
-- of its bytes. `Cutting` and `Centre` leave these open; document 01 fixes them once, in `stars`. What comes back is
-- stated over a plan (`Result`).
use Rattle.std.specs.Prelude.{◌≡◌, List, ℕ}
use Rattle.rules.specs.Cutting.{Pairs, Valid, First, one}
use Rattle.rules.specs.Centre.{HasCentre, Lowest, lowest_one}

pub record Plan : Type 1 where
  pub cut : ℕ → ℕ → Type 0
  pub piece : List ℕ → Type 0
  pub weight : ℕ → ℕ → ℕ
  pub centre : ℕ → List ℕ → Type 0

-- a valid cutting of n corners, and the first of the lightest
abbrev pub ValidBy : Plan → ℕ → Pairs → Type 0
ValidBy p n C = Valid p.cut p.piece n C

abbrev pub FirstBy : Plan → ℕ → Pairs → Type 0
FirstBy p n C = First p.cut p.piece p.weight n C

-- some cutting is valid
abbrev pub Cuttable : Plan → ℕ → Type 0
Cuttable p n = (C : Pairs) × ValidBy p n C

-- no second corner stands in a centre's place
abbrev pub OneCentre : Plan → Type 0
OneCentre p = (S : List ℕ) (x y : ℕ) → p.centre x S → p.centre y S → x ≡ y

-- 01's plan: "A cutting is valid when every piece has a centre"; with fewest pieces, each counting one; "The centre
-- reported is the lowest-numbered one." Which pairs may be cuts and who sees whom are two readings.
abbrev pub stars : (ℕ → ℕ → Type 0) → (ℕ → ℕ → Type 0) → Plan
stars cut sees = record { cut = cut; piece = HasCentre sees; weight = one; centre = Lowest sees }

pub stars_one : (cut sees : ℕ → ℕ → Type 0) → OneCentre (stars cut sees)
stars_one cut sees = lowest_one sees
