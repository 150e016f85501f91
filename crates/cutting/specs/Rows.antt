-- Tables as lists of cells, and what the functions that work on rows promise: a row has a lane for each centre.
use Rattle.std.specs.Prelude.{◌≡◌, List, ℕ, suc, ◌+◌, ◌*◌, ◌-◌, ◌/◌, ◌%◌, ◌<◌, ◌≤◌, min, length, get_or}
use Rattle.limits.specs.Limits.{row, all_cells}
use Rattle.rules.specs.Cutting.{one}
use Rattle.rules.specs.Cells.{cell}
use Rattle.rules.specs.Table as rules
use Rattle.rules.specs.Columns.{pays, Least, Lane, Columned}

-- what a cell holds where there is no way
abbrev pub none : ℕ
none = 255

-- the lane x of a row
abbrev pub lane : List ℕ → ℕ → ℕ
lane r x = get_or r x 0

-- a b may be a cut
abbrev pub Cut : List ℕ → ℕ → ℕ → Type 0
Cut cuts a b = ¬ (cell cuts a b ≡ 0)

-- two corners, in rising order
abbrev pub Line : ℕ → ℕ → Type 0
Line i j = (i < j) × (j < row)

-- ---- rows
pub record Blank (r : List ℕ) : Type 0 where
  pub at : (x : ℕ) → x < row → lane r x ≡ none

-- r' is r, each lane lowered to v and the lane of b together
pub record Lowered (r r' col : List ℕ) (b v : ℕ) : Type 0 where
  pub at : (x : ℕ) → x < row → lane r' x ≡ min (lane r x) (min none (v + cell col b x))

-- each lane of r is the least cost of a way from i whose first step is to a corner below t
pub record Swept (val col : List ℕ) (i t : ℕ) (r : List ℕ) : Type 0 where
  pub at : (x : ℕ) → x < row → Least none (pays (cell val) (cell col) x i) i t (lane r x)

-- the lanes of i are those of r, each lowered to v and the lane of j together; none where x does not see i; no other
-- lane has changed
pub record Finished (r veil col col' : List ℕ) (i j v : ℕ) : Type 0 where
  pub at : (x : ℕ) → x < row → cell col' i x ≡ min none (min (lane r x) (min none (v + cell col j x)) + cell veil i x)
  pub other : (a x : ℕ) → x < row → ¬ (a ≡ i) → cell col' a x ≡ cell col a x

-- the lanes of j are the veil's
pub record Begun (veil col : List ℕ) (j : ℕ) : Type 0 where
  pub at : (x : ℕ) → x < row → cell col j x ≡ cell veil j x

-- ---- the value of a line
-- v is one more than the least over the centres: i and j by the row, those between by the two roads through them
pub record Shut (veil left right r : List ℕ) (i j v : ℕ) : Type 0 where
  pub mid : ℕ
  pub least : Least none (λ x. cell left i x + cell right j x) i j mid
  pub is : v ≡ min none (1 + min (min mid (min none (lane r i + cell veil i i))) (min none (lane r j + cell veil i j)))

pub record Valued (cuts veil left right r : List ℕ) (n i j v : ℕ) : Type 0 where
  pub side : j ≡ suc i → v ≡ 0
  pub barred : suc i < j → ¬ rules.Closes (Cut cuts) n i j → v ≡ none
  pub shut : suc i < j → rules.Closes (Cut cuts) n i j → Shut veil left right r i j v

-- each cell is 0 or none
pub record Veil (veil : List ℕ) : Type 0 where
  pub size : length veil ≡ all_cells
  pub at : (k : ℕ) → ¬ (get_or veil k 0 ≡ 0) → get_or veil k 0 ≡ none

-- ---- the readings, by the cells a and b of a pair in the two drawings
-- 1 where the pair may be a cut, else 0
abbrev pub cut_by : ℕ → ℕ → ℕ
cut_by a b = min (a % 2) (b % 2)

-- 0 where its first corner, as a centre, sees the second, else none
abbrev pub veil_by : ℕ → ℕ → ℕ
veil_by a b = none - none * min (a / 2 % 2) (b / 2 % 2)

-- the corners below t have been read with those below n
pub record Read (first second cuts veil : List ℕ) (n t : ℕ) : Type 0 where
  pub cuts_size : length cuts ≡ all_cells
  pub cut : (x y : ℕ) → x < n → y < t → cell cuts x y ≡ cut_by (cell first x y) (cell second x y)
  pub lane : (x y : ℕ) → x < n → y < t → cell veil y x ≡ veil_by (cell first x y) (cell second x y)
  pub veils : Veil veil

-- ---- columns
-- the values of the lines to j from lo on, by the roads c
abbrev pub Lines : List ℕ → List ℕ → List ℕ → List ℕ → ℕ → ℕ → ℕ → (ℕ → ℕ → ℕ) → Type 0
Lines cuts veil val left n j lo c = Columned none one (Cut cuts) (cell veil) (cell val) (cell left) row n j lo c

-- row j of right has what the centres from lo on pay for the road to j, by the roads c
abbrev pub Rights : List ℕ → ℕ → ℕ → (ℕ → ℕ → ℕ) → Type 0
Rights right j lo c = (x : ℕ) → lo ≤ x → x ≤ j → cell right j x ≡ c x x

-- the tables of pairs have every line to a corner below j
pub record Filled (cuts veil val left right : List ℕ) (n j : ℕ) : Type 0 where
  pub val_size : length val ≡ all_cells
  pub left_size : length left ≡ all_cells
  pub right_size : length right ≡ all_cells
  pub lines : (b : ℕ) → b < j → (c : ℕ → ℕ → ℕ) × Lines cuts veil val left n b 0 c × Rights right b 0 c

-- and in the column j those from i on, with the roads themselves in col
pub record Filling (cuts veil val left right col : List ℕ) (n i j : ℕ) : Type 0 where
  pub old : Filled cuts veil val left right n j
  pub col_size : length col ≡ all_cells
  pub new : Lines cuts veil val left n j i (cell col)
  pub rights : Rights right j i (cell col)

-- ---- a lane again
-- r is the least of the steps from b and the costs g
pub record Reach (val g : List ℕ) (b r : ℕ) : Type 0 where
  pub most : r ≤ none
  pub low : (c : ℕ) → c < row → r ≤ cell val b c + lane g c
  pub hit : r < none → (c : ℕ) × (c < row) × (r ≡ cell val b c + lane g c)

-- lane x of col has the roads of the centre x to j, from x itself on
pub record LaneOf (veil val col : List ℕ) (x j : ℕ) : Type 0 where
  pub is : Lane none (cell veil) (cell val) x j x (cell col)

-- and no other lane has changed
pub record Laned (veil val before after : List ℕ) (x j : ℕ) : Type 0 where
  pub lane_is : LaneOf veil val after x j
  pub other : (a y : ℕ) → y < row → ¬ (y ≡ x) → cell after a y ≡ cell before a y
