-- What the functions promise each other: what is told of the cells, what is written to a slice, a piece by its
-- corners, and pieces one after another.
use Rattle.std.specs.Prelude.{◌≡◌, List, ◌∷◌, ◌++◌, ℕ, ◌+◌, ◌-◌, ◌<◌, ◌≤◌, length, get_or, take, drop}
use Rattle.std.specs.List.{All}
use denote.Ref.{Bor}
use Rattle.limits.specs.Limits.{row, all_cells}
use Rattle.rules.specs.Lists.{In}
use Rattle.rules.specs.Cutting.{corners, below, told}
use Rattle.rules.specs.Lays.{centre}
use Rattle.rules.specs.Cells.{marked, both_see}
use Rattle.rules.specs.Walk.{walk, line}
use Rattle.rules.specs.Lays.{lay, lay_all, blank}

-- ---- of the piece on the line i j: its corners after i, its bytes, and those of the ranges under its lines; and of
-- the range, which is both. No centre stands in its place yet.
abbrev pub corners_after : List ℕ → ℕ → ℕ → List ℕ
corners_after t i j = corners (walk (marked t) i j j)

abbrev pub piece_bytes : List ℕ → ℕ → ℕ → List ℕ
piece_bytes t i j = lay blank (i ∷ corners_after t i j)

abbrev pub lines_bytes : List ℕ → ℕ → ℕ → List ℕ
lines_bytes t i j = lay_all blank (below i (walk (marked t) i j j))

abbrev pub range_bytes : List ℕ → ℕ → ℕ → List ℕ
range_bytes t i j = lay_all blank (told i (line (marked t) i j))

-- ---- the cells of an array that has them all
abbrev pub IsWhole : List ℕ → Bor (List ℕ) → Type 0
IsWhole array cells = (all_cells ≤ length array) × (cells.now ≡ take all_cells array)

-- ---- l was written to the beginning of the buffer, and r is its length
pub record Wrote (out out' : List ℕ) (r : ℕ) (l : List ℕ) : Type 0 where
  pub past : r ≡ length l
  pub now : out' ≡ l ++ drop (length l) out

-- ---- a piece by its corners
abbrev pub first_of : List ℕ → ℕ
first_of corners = get_or corners 0 0

abbrev pub last_of : List ℕ → ℕ
last_of corners = get_or corners (length corners - 1) 0

-- these are the corners of the piece on the line from the first of them to the last
pub record Corners (pairs corners : List ℕ) : Type 0 where
  pub apart : first_of corners + 1 < last_of corners
  pub small : last_of corners < row
  pub are : corners ≡ first_of corners ∷ corners_after pairs (first_of corners) (last_of corners)

-- ---- corners that have cells
abbrev pub Small : List ℕ → Type 0
Small S = All (λ x. x < row) S

-- these are the bytes of pieces whose corners have cells, whatever stands in the centre's place
pub record Pieces (told : List ℕ) : Type 0 where
  pub shown : List ℕ → ℕ
  pub l : List (List ℕ)
  pub are : told ≡ lay_all shown l
  pub small : (S : List ℕ) → In S l → Small S

-- the pieces are kept, and each has its lowest centre (0 where it has none)
abbrev pub Centred : List ℕ → List ℕ → List ℕ → List ℕ → Type 0
Centred first second before after = (o : List ℕ → ℕ) (l : List (List ℕ)) → before ≡ lay_all o l →
    after ≡ lay_all (centre (both_see first second)) l
