-- The table of sight as it is filled: what its cells mean meanwhile, and what each function adds to it.
--
--     0      nothing is known of the pair yet, or neither sees the other
--     2, 3   told: a centre's sight alone, both kinds
--     4 + k  corner k lies between the two, and whether a centre sees past it is settled at the end
use Rattle.std.specs.Prelude.{◌≡◌, Bool, ◌⊎◌, List, ℕ, ◌+◌, ◌<◌, ℤ, get_or, length, set}
use Rattle.limits.specs.Limits.{place}
use Rattle.outline.specs.Drawing.{corners, after, Beside, Sees}
use Rattle.outline.specs.InOrOn.{CentreSees}
use Rattle.outline.specs.Tells.{Tells}
use Rattle.outline.specs.Way.{GrazedBy}
use Rattle.outline.specs.Begins.{Begins}
use Rattle.drawing.specs.Sight.{Cell}
use Rattle.drawing.specs.Known.{LiesOn}

-- ---- what stands in a cell
abbrev pub cell : List ℕ → ℕ → ℕ → ℕ
cell c p q = get_or c (place p q) 0

-- the number of a third corner on the segment
pub record Grazed (d : List ℤ) (p q v : ℕ) : Type 0 where
  pub third : ℕ
  pub is : v ≡ 4 + third
  pub by : GrazedBy d p q third

-- the two cells of every pair hold the same
abbrev pub BothWays : ℕ → List ℕ → Type 0
BothWays n c = (p q : ℕ) → p < n → q < n → cell c p q ≡ cell c q p

-- v says what is known of p and q
abbrev pub Code : List ℤ → ℕ → ℕ → ℕ → Type 0
Code d p q v = Cell v (Sees d p q) (CentreSees d p q) ⊎ Grazed d p q v

-- ---- a cell of the pairs of corners is 0 or says what is known; of the pairs that `Done` names it says it. The two
-- cells of a pair hold the same. Every other cell keeps its value.
pub record Marked (d : List ℤ) (Done : ℕ → ℕ → Type 0) (before after : List ℕ) : Type 0 where
  pub codes : (p q : ℕ) → p < corners d → q < corners d → (cell after p q ≡ 0) ⊎ Code d p q (cell after p q)
  pub done : (p q : ℕ) → p < corners d → q < corners d → Done p q → Code d p q (cell after p q)
  pub both_ways : BothWays (corners d) after
  pub kept : (k : ℕ) → ((p q : ℕ) → p < corners d → q < corners d → ¬ (k ≡ place p q)) →
      get_or after k 0 ≡ get_or before k 0
  pub size : length after ≡ length before

-- where the table was marked for the pairs A, whatever it was at first, it is marked for the pairs B
pub record Grows (d : List ℤ) (A B : ℕ → ℕ → Type 0) (before after : List ℕ) : Type 0 where
  pub grown : (o : List ℕ) → Marked d A o before → Marked d B o after
  pub size : length after ≡ length before

abbrev pub None : ℕ → ℕ → Type 0
None p q = ⊥

-- the two cells of a pair are v
abbrev pub both : List ℕ → ℕ → ℕ → ℕ → List ℕ
both c i j v = set (set c (place i j) v) (place j i) v

-- ---- noughts, neighbours
-- the cells of row i below n are 0
pub record RowBlank (i n : ℕ) (before after : List ℕ) : Type 0 where
  pub blank : (q : ℕ) → q < n → get_or after (place i q) 0 ≡ 0
  pub kept : (k : ℕ) → ((q : ℕ) → q < n → ¬ (k ≡ place i q)) → get_or after k 0 ≡ get_or before k 0
  pub size : length after ≡ length before

abbrev pub NeighboursAdded : List ℤ → List ℕ → List ℕ → Type 0
NeighboursAdded d before after = Grows d None (Beside d) before after

-- ---- lines of sight that begin with a side at one end, as the corners before i are their other ends
abbrev pub Begun : List ℤ → ℕ → ℕ → ℕ → Type 0
Begun d i p q = Beside d p q ⊎ (((q < i) × Begins d p q) ⊎ ((p < i) × Begins d q p))

-- of corner i on the line of side k: the end that lies between i and the other
abbrev pub SideBegun : List ℤ → ℕ → ℕ → List ℕ → List ℕ → Type 0
SideBegun d i k before now =
    (LiesOn d k i (after d k) × (now ≡ both before i (after d k) (4 + k))) ⊎
    ((¬ LiesOn d k i (after d k)) × (now ≡ both before i k (4 + after d k)))

abbrev pub RowBegun : List ℤ → ℕ → List ℕ → List ℕ → Type 0
RowBegun d i before now = Grows d (Begun d i) (Begun d (i + 1)) before now

-- neighbours, and all those lines
abbrev pub Early : List ℤ → ℕ → ℕ → Type 0
Early d p q = Beside d p q ⊎ (Begins d p q ⊎ Begins d q p)

abbrev pub BeginningsAdded : List ℤ → List ℕ → List ℕ → Type 0
BeginningsAdded d before now = Grows d (Beside d) (Early d) before now

-- ---- the pairs that are looked at, as the corners before i are one of the two
abbrev pub RowsDone : List ℤ → ℕ → ℕ → ℕ → Type 0
RowsDone d i p q = Early d p q ⊎ ((p < i) ⊎ (q < i))

abbrev pub RowsAdded : List ℤ → List ℕ → List ℕ → Type 0
RowsAdded d before now = Grows d (Early d) (RowsDone d (corners d)) before now

-- what a look at i and j returns: what is known of them; or 0, where they are told already or neither sees the other
pub record Looked (d : List ℤ) (i j v : ℕ) : Type 0 where
  pub told : Code d i j v ⊎ ((v ≡ 0) × (CentreSees d i j → Early d i j))

-- what is known is written
abbrev pub Decided : List ℤ → ℕ → ℕ → List ℕ → List ℕ → Type 0
Decided d i j before now =
    ((v : ℕ) × Code d i j v × (now ≡ both before i j v)) ⊎ ((CentreSees d i j → Early d i j) × (now ≡ before))

-- ---- third corners, settled pair by pair
pub record Coded (d : List ℤ) (c : List ℕ) : Type 0 where
  pub code : (p q : ℕ) → p < corners d → q < corners d → Code d p q (cell c p q)
  pub both_ways : BothWays (corners d) c

-- no third corner's number stands there any more
abbrev pub Settled : List ℕ → ℕ → ℕ → Type 0
Settled c p q = cell c p q < 4

-- some pairs more are settled
pub record Settling (d : List ℤ) (before after : List ℕ) : Type 0 where
  pub coded : Coded d after
  pub still : (p q : ℕ) → p < corners d → q < corners d → Settled before p q → Settled after p q
  pub kept : (k : ℕ) → ((p q : ℕ) → p < corners d → q < corners d → ¬ (k ≡ place p q)) →
      get_or after k 0 ≡ get_or before k 0
  pub size : length after ≡ length before

pub record PairSettled (d : List ℤ) (i j : ℕ) (before after : List ℕ) (r : Bool) : Type 0 where
  pub settling : Settling d before after
  pub here : Settled after i j
  pub tells : Tells r (CentreSees d i j)

-- the pairs of corner i with the corners after it, before t
pub record RowSettled (d : List ℤ) (i t : ℕ) (before after : List ℕ) : Type 0 where
  pub settling : Settling d before after
  pub row : (q : ℕ) → i < q → q < t → Settled after i q

-- the rows before t
pub record RowsSettled (d : List ℤ) (t : ℕ) (before after : List ℕ) : Type 0 where
  pub settling : Settling d before after
  pub rows : (p q : ℕ) → p < t → p < q → q < corners d → Settled after p q

-- a whole row, and all rows
abbrev pub SettlesRow : List ℤ → ℕ → List ℕ → List ℕ → Type 0
SettlesRow d i before now = RowSettled d i (corners d) before now

abbrev pub Settles : List ℤ → List ℕ → List ℕ → Type 0
Settles d before now = RowsSettled d (corners d) before now
