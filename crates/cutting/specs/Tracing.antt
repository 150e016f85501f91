-- The cutting as cells, and what the functions that trace it promise each other.
use Rattle.std.specs.Prelude.{◌≡◌, Option, Bool, true, false, ◌⊎◌, List, ◌∷◌, ℕ, suc, ◌-◌, ◌<◌, ◌≤◌, T, length, get_or}
use Rattle.std.specs.Option.{unwrap_or}
use Rattle.limits.specs.Limits.{row, all_cells}
use Rattle.rules.specs.Cutting.{Pairs, Valid, First, one}
use Rattle.rules.specs.Centre.{HasCentre}
use Rattle.rules.specs.Cells.{cell, marked}
use Rattle.rules.specs.Columns.{Solved}
use Rattle.rules.specs.Choice.{next_of, rest_of, fits, better, pick_of, choice_of}
use Rattle.rules.specs.Ways.{Sees}
use Rattle.rules.specs.Unbeaten.{Every}
use Rattle.rules.specs.Traced.{LineOfRoad, Traced}
use Rattle.cutting.specs.Rows.{none, Cut, Rights, Filled, LaneOf}

-- ---- the piece that is taken, read off the tables
abbrev pub next_in : List ℕ → List ℕ → List ℕ → ℕ → ℕ → ℕ → ℕ
next_in val left col = next_of none one (cell val) (cell left) (cell col)

abbrev pub rest_in : List ℕ → List ℕ → List ℕ → ℕ → ℕ → ℕ → List ℕ
rest_in val left col = rest_of none one (cell val) (cell left) (cell col)

abbrev pub fits_in : List ℕ → List ℕ → List ℕ → ℕ → ℕ → ℕ → Bool
fits_in val left right i j x = fits none one (cell val) (cell left) (cell right j) i j x

abbrev pub better_in : List ℕ → List ℕ → List ℕ → List ℕ → ℕ → ℕ → ℕ → ℕ → ℕ
better_in val left right col i j b x = better none one (cell val) (cell left) (cell col) (cell right j) i j b x

abbrev pub pick_in : List ℕ → List ℕ → List ℕ → List ℕ → ℕ → ℕ → ℕ
pick_in val left right col i j = pick_of none one (cell val) (cell left) (cell col) (cell right j) i j

-- the best so far, where `rules` has row for none
abbrev pub or_row : Option ℕ → ℕ
or_row o = unwrap_or o row

-- the centre x takes every corner from c on to j
abbrev pub EveryIn : List ℕ → List ℕ → List ℕ → ℕ → ℕ → ℕ → Type 0
EveryIn val left col j x c = Every none one (cell val) (cell left) (cell col) j x c

-- r is the lowest centre of the line i j that fits; j where none before it does
pub record LowestFit (val left right : List ℕ) (i j r : ℕ) : Type 0 where
  pub from : i ≤ r
  pub to : r ≤ j
  pub before : (y : ℕ) → i ≤ y → y < r → fits_in val left right i j y ≡ false
  pub hit : r < j → fits_in val left right i j r ≡ true

-- the lanes of the centres below t that fit are there
pub record Lanes (veil val left right col : List ℕ) (i j t : ℕ) : Type 0 where
  pub at : (x : ℕ) → i ≤ x → x < t → fits_in val left right i j x ≡ true → LaneOf veil val col x j

-- d is the corner after c of the piece with the centre x and the last corner j
pub record Next (val left col : List ℕ) (x j c d : ℕ) : Type 0 where
  pub after : c < d
  pub within : d ≤ j
  pub is : d ≡ next_in val left col x j c
  pub rest : rest_in val left col x j c ≡ d ∷ rest_in val left col x j d

-- ---- the set of pairs
-- each cell is 0 or 1, and those of no pair are 0: of neighbours and below the diagonal
pub record Ticks (pairs : List ℕ) : Type 0 where
  pub size : length pairs ≡ all_cells
  pub bits : (k : ℕ) → get_or pairs k 0 ≤ 1
  pub rest : (a b : ℕ) → a < row → b < row → b ≤ suc a → cell pairs a b ≡ 0

-- the pair c d was added where it is no side
pub record Ticked (before after : List ℕ) (c d : ℕ) : Type 0 where
  pub ticks : Ticks after
  pub drawn : suc c < d → T (marked after c d)
  pub kept : (p q : ℕ) → T (marked before p q) → T (marked after p q)
  pub only : (p q : ℕ) → T (marked after p q) → T (marked before p q) ⊎ ((p ≡ c) × (q ≡ d) × (suc c < d))

-- the lines of the road from a along s that are no sides were added
pub record Marked (before after : List ℕ) (a : ℕ) (s : List ℕ) : Type 0 where
  pub ticks : Ticks after
  pub drawn : (c d : ℕ) → LineOfRoad a s c d → suc c < d → T (marked after c d)
  pub kept : (c d : ℕ) → T (marked before c d) → T (marked after c d)
  pub only : (c d : ℕ) → T (marked after c d) → T (marked before c d) ⊎ (LineOfRoad a s c d × (suc c < d))

-- the ranges to a corner above j have been looked at, and those to j from below i
abbrev pub Ahead : ℕ → ℕ → ℕ → ℕ → Type 0
Ahead i j a b = (j < b) ⊎ ((b ≡ j) × (a < i))

-- finished tables, and the set so far
pub record Tracing (cuts veil val left right : List ℕ) (n : ℕ) (pairs : List ℕ) (i j : ℕ) : Type 0 where
  pub ticks : Ticks pairs
  pub m : ℕ
  pub big : 2 ≤ m
  pub corners : n ≡ suc m
  pub small : n ≤ row
  pub val_size : length val ≡ all_cells
  pub left_size : length left ≡ all_cells
  pub right_size : length right ≡ all_cells
  pub road : ℕ → ℕ → ℕ → ℕ
  pub solved : Solved none one (Cut cuts) (cell veil) (cell val) (cell left) road (suc m)
  pub rights : (b : ℕ) → b < suc m → Rights right b 0 (road b)
  pub traced : Traced (Cut cuts) (λ a b. cell val a b < none) (choice_of none one (cell val) road) m (Ahead i j)
      (marked pairs)

-- the set of the whole range alone
pub record Started (pairs : List ℕ) (n : ℕ) : Type 0 where
  pub ticks : Ticks pairs
  pub whole : T (marked pairs 0 (n - 1))
  pub only : (c d : ℕ) → T (marked pairs c d) → (c ≡ 0) × (d ≡ n - 1)

-- the centre x has the piece that is taken on the line i j, where that is in the set: whichever the set
abbrev pub Chosen : List ℕ → List ℕ → List ℕ → List ℕ → List ℕ → ℕ → List ℕ → ℕ → ℕ → ℕ → Type 0
Chosen cuts veil val left right n col i j x =
    (pairs : List ℕ) (t : Tracing cuts veil val left right n pairs i j) → T (marked pairs i j) →
    (x ≤ j) × (choice_of none one (cell val) t.road i j ≡ rest_in val left col x j i)

-- ---- the whole
-- finished tables of n corners that have a cutting
pub record Solves (cuts veil val left right : List ℕ) (n : ℕ) : Type 0 where
  pub three : 3 ≤ n
  pub small : n ≤ row
  pub filled : Filled cuts veil val left right n n
  pub has : ¬ (cell val 0 (n - 1) ≡ none)

-- the set is the first smallest cutting
pub record Drawn (cuts veil : List ℕ) (n : ℕ) (pairs : List ℕ) : Type 0 where
  pub ticks : Ticks pairs
  pub first : First (Cut cuts) (HasCentre (Sees (cell veil))) one n (marked pairs)

-- a search by the readings: the set is the first smallest cutting, or no set is valid and the array is as before
pub record Finds (cuts veil : List ℕ) (n : ℕ) (before after : List ℕ) (r : Bool) : Type 0 where
  pub some : r ≡ true → Drawn cuts veil n after
  pub no_set : r ≡ false → (C : Pairs) → ¬ Valid (Cut cuts) (HasCentre (Sees (cell veil))) n C
  pub kept : r ≡ false → after ≡ before
