-- The tables of a search that goes column by column, as functions. No list and no lane occurs here, and neither what a
-- piece weighs (`w`) nor what stands for "no way" (`top`) is fixed: another weight has the same tables.
--
--   veil y x     0 where x sees y, else top
--   val i j      the least weight of what stands on the line i j: 0 for a side; for a range what its piece weighs and
--                what its lines cost
--   road j b x   the least that a road from b to j costs whose corners x sees, by the values of its lines; for one j
--                this is a column
--   left i x     road x i x, the road from i to the centre x itself: all that a later column asks of an earlier one
--
--         i ------ .. ------ x ------ .. ------ j        a piece on the line i j with the centre x: a road from i to x
--              left i x          road j x x             and a road from x to j, of corners that x sees
use Rattle.std.specs.Prelude.{◌≡◌, ℕ, suc, ◌+◌, ◌<◌, ◌≤◌, min}
use Rattle.rules.specs.Table as rules

-- r is the least f b of the b between lo and hi; top where no f b is below it
pub record Least (top : ℕ) (f : ℕ → ℕ) (lo hi r : ℕ) : Type 0 where
  pub most : r ≤ top
  pub low : (b : ℕ) → b < hi → lo < b → r ≤ f b
  pub hit : r < top → (b : ℕ) × (lo < b) × (b < hi) × (r ≡ f b)

-- what a step from c to b costs the centre x, with the rest of the way
abbrev pub pays : (ℕ → ℕ → ℕ) → (ℕ → ℕ → ℕ) → ℕ → ℕ → ℕ → ℕ
pays val side x c b = val c b + side b x

-- as a program adds it up that has no number above top
abbrev pub costs : ℕ → (ℕ → ℕ → ℕ) → (ℕ → ℕ → ℕ) → ℕ → ℕ → ℕ → ℕ
costs top val side x c b = min top (pays val side x c b)

-- a column from the corner lo on: of each corner and each of n centres the cheapest road to j, by its first step
pub record Column (top : ℕ) (veil val : ℕ → ℕ → ℕ) (n j lo : ℕ) (col : ℕ → ℕ → ℕ) : Type 0 where
  pub start : (x : ℕ) → x < n → col j x ≡ veil j x
  pub seen : (a x : ℕ) → lo ≤ a → a < j → x < n → veil a x ≡ 0 → Least top (pays val col x a) a (suc j) (col a x)
  pub unseen : (a x : ℕ) → lo ≤ a → a < j → x < n → ¬ (veil a x ≡ 0) → col a x ≡ top

-- a lane of it: the roads of one centre x alone
pub record Lane (top : ℕ) (veil val : ℕ → ℕ → ℕ) (x j lo : ℕ) (col : ℕ → ℕ → ℕ) : Type 0 where
  pub start : col j x ≡ veil j x
  pub seen : (a : ℕ) → lo ≤ a → a < j → veil a x ≡ 0 → Least top (pays val col x a) a (suc j) (col a x)
  pub unseen : (a : ℕ) → lo ≤ a → a < j → ¬ (veil a x ≡ 0) → col a x ≡ top

-- v is the least that a piece on the line i j costs, over its centres: low for i, high for j, mid for those between
pub record LeastOver (top : ℕ) (w veil val col : ℕ → ℕ → ℕ) (through : ℕ → ℕ) (i j v : ℕ) : Type 0 where
  pub low : ℕ
  pub mid : ℕ
  pub high : ℕ
  pub low_is : Least top (pays val col i i) i j low
  pub mid_is : Least top through i j mid
  pub high_is : Least top (pays val col j i) i j high
  pub is : v ≡ min top (w i j + min (min mid (min top (low + veil i i))) (min top (high + veil i j)))

-- the value of the line i j: of a side, of a line on which no range stands, of a range
pub record Valued (top : ℕ) (w : ℕ → ℕ → ℕ) (cut : ℕ → ℕ → Type 0) (veil val col : ℕ → ℕ → ℕ) (through : ℕ → ℕ)
    (n i j v : ℕ) : Type 0 where
  pub side : j ≡ suc i → v ≡ 0
  pub barred : suc i < j → ¬ rules.Closes cut n i j → v ≡ top
  pub shut : suc i < j → rules.Closes cut n i j → LeastOver top w veil val col through i j v

-- what column j adds to the tables of pairs, from the corner lo on; m centres are counted, n corners there are
pub record Columned (top : ℕ) (w : ℕ → ℕ → ℕ) (cut : ℕ → ℕ → Type 0) (veil val left : ℕ → ℕ → ℕ) (m n j lo : ℕ)
    (col : ℕ → ℕ → ℕ) : Type 0 where
  pub column : Column top veil val m j lo col
  pub value : (i : ℕ) → lo ≤ i → i < j → Valued top w cut veil val col (λ x. left i x + col x x) n i j (val i j)
  pub lefts : (i : ℕ) → lo ≤ i → i ≤ j → left i j ≡ col i j

-- What is asked of the weights. Each piece weighs something, so that the direct line is never taken for one. No sum
-- reaches top: a piece weighs at most `heaviest`, and the corners lie that far apart on a scale that ends below top.
pub record Light (top n : ℕ) (w : ℕ → ℕ → ℕ) : Type 0 where
  pub heaviest : ℕ
  pub scale : ℕ → ℕ
  pub apart : (a b : ℕ) → a < b → scale a + heaviest ≤ scale b
  pub light : (a b : ℕ) → a < b → b < n → w a b ≤ heaviest
  pub weighs : (a b : ℕ) → a < b → b < n → 0 < w a b
  pub room : scale n < top

-- finished tables of n corners
pub record Solved (top : ℕ) (w : ℕ → ℕ → ℕ) (cut : ℕ → ℕ → Type 0) (veil val left : ℕ → ℕ → ℕ) (road : ℕ → ℕ → ℕ → ℕ)
    (n : ℕ) : Type 0 where
  pub light : Light top n w
  pub cuts : (a b : ℕ) → Dec (cut a b)
  pub veils : (y x : ℕ) → y < n → x < n → ¬ (veil y x ≡ 0) → veil y x ≡ top
  pub columns : (j : ℕ) → j < n → Columned top w cut veil val left n n j 0 (road j)
