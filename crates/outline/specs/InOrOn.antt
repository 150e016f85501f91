-- "In or on": document 01, "A sound drawing", fourth point, sentence by sentence.
-- These are definitions that a reader has to believe, beside those of `Drawing`.
use Rattle.std.specs.Prelude.{◌≡◌, ◌⊎◌, List, ℕ, zero, suc, ◌+◌, ◌*◌, ◌<◌, ℤ, pos, ◌+ℤ◌, ◌-ℤ◌, ◌*ℤ◌, ◌≤ℤ◌, ◌<ℤ◌}
use Rattle.std.specs.Int.Signed.{lt_z_yes}
use Rattle.outline.specs.Drawing.{Point, corner, corners, after}

-- ---- 01: "A point is a pair of whole numbers over one whole r > 0." (A corner is a `Point` of `Drawing`; any point
-- is a spot.)
pub record Spot : Type 0 where
  pub x : ℤ
  pub y : ℤ
  pub r : ℤ
  pub r_above : pos 0 <ℤ r

-- a pair of whole numbers, over 1
abbrev pub spot : Point → Spot
spot a = record { x = a.x; y = a.y; r = pos 1; r_above = lt_z_yes tt }

-- z is the point of the segment ab that p and q name, as in 01's definition of a shared point
pub record OnSegment (z : Spot) (a b : Point) : Type 0 where
  pub p : ℤ
  pub q : ℤ
  pub q_above : pos 0 <ℤ q
  pub p_from : pos 0 ≤ℤ p
  pub p_to : p ≤ℤ q
  pub on_x : z.r *ℤ (q *ℤ a.x +ℤ p *ℤ (b.x -ℤ a.x)) ≡ q *ℤ z.x
  pub on_y : z.r *ℤ (q *ℤ a.y +ℤ p *ℤ (b.y -ℤ a.y)) ≡ q *ℤ z.y

-- ---- "one end higher than it, the other end not higher"
abbrev pub Higher : Spot → Point → Type 0
Higher z a = z.y <ℤ (z.r *ℤ a.y)

abbrev pub OneEndHigher : Spot → Point → Point → Type 0
OneEndHigher z a b = (Higher z a × (¬ Higher z b)) ⊎ ((¬ Higher z a) × Higher z b)

-- "and pass at its height strictly to its right (larger x)": a point of ab has its height and a larger x
pub record PassesRight (z : Spot) (a b : Point) : Type 0 where
  pub p : ℤ
  pub q : ℤ
  pub q_above : pos 0 <ℤ q
  pub p_from : pos 0 ≤ℤ p
  pub p_to : p ≤ℤ q
  pub height : z.r *ℤ (q *ℤ a.y +ℤ p *ℤ (b.y -ℤ a.y)) ≡ q *ℤ z.y
  pub larger : (q *ℤ z.x) <ℤ (z.r *ℤ (q *ℤ a.x +ℤ p *ℤ (b.x -ℤ a.x)))

-- ---- m of the numbers below k have P
abbrev pub Count : (ℕ → Type 0) → ℕ → ℕ → Type 0
Count P zero m = m ≡ 0
Count P (suc k) zero = (¬ P k) × Count P k zero
Count P (suc k) (suc m) = (P k × Count P k m) ⊎ ((¬ P k) × Count P k (suc m))

-- an odd number of them
abbrev pub OddCount : (ℕ → Type 0) → ℕ → Type 0
OddCount P k = (h : ℕ) × Count P k (2 * h + 1)

-- ---- 01: "It lies in or on a sound drawing when it is on a side, or when an odd number of sides have one end higher
-- than it, the other end not higher, and pass at its height strictly to its right (larger x)."
module _ (d : List ℤ) (z : Spot) where
  abbrev pub OnSide : ℕ → Type 0
  OnSide k = OnSegment z (corner d k) (corner d (after d k))

  abbrev pub RightSide : ℕ → Type 0
  RightSide k = OneEndHigher z (corner d k) (corner d (after d k)) × PassesRight z (corner d k) (corner d (after d k))

  abbrev pub InOrOn : Type 0
  InOrOn = ((k : ℕ) × (k < corners d) × OnSide k) ⊎ OddCount RightSide (corners d)

-- ---- 02, K3: "for a centre, sight holds when every point of the segment lies in or on the outline."
pub record CentreSees (d : List ℤ) (i j : ℕ) : Type 0 where
  pub every_point : (z : Spot) → OnSegment z (corner d i) (corner d j) → InOrOn d z
