-- What the private functions promise and ask.
use Rattle.std.specs.Prelude.{Option, Some, None, ◌≡◌, List, [], ◌∷◌, ◌++◌, ℕ, ◌+◌, ◌≤◌, ◌<◌, ℤ, pos, nat_abs, ◌+ℤ◌, ◌*ℤ◌, length, get_or, take, drop, ◌<ℤ◌}
use Rattle.limits.specs.Limits.{furthest}
use Rattle.outline.specs.Drawing.{Point, corner, corners}
use Rattle.rules.specs.Lists.{In}
use Rattle.rules.specs.Refusals.{FirstFailed}
use Rattle.desk.specs.Answer.{asked}
use Rattle.marks.specs.Sizes.{most_area, most_weighed}
use Rattle.marks.specs.Wedges.{Wedge, wedge, following, fan, wedges}
use Rattle.marks.specs.Steps.{InSteps}
use Rattle.marks.specs.Lands.{area, Holds, LandsBy, Lands}
use Rattle.marks.specs.Areas.{Adds}
use Rattle.marks.specs.Carry.{MarkInRange}
use Rattle.marks.specs.declared.Place.{Place}
use Rattle.marks.specs.declared.pieces.Wedges.{Wedges}
use Rattle.marks.specs.declared.sizes.Weights.{Weights}
use Rattle.marks.specs.declared.sizes.Coordinates.{Coordinates}
use Rattle.marks.specs.declared.wedge.Triangle.{Triangle}
use Rattle.marks.specs.declared.wedge.Wedge as numbers

-- ---- the pair
pub record OrTen (k r : ℕ) : Type 0 where
  pub ten : k ≡ 0 → r ≡ 10
  pub same : ¬ (k ≡ 0) → r ≡ k

-- the number of a pair whose mark is out of range, where so many bytes are lent
pub record Outside (first second : List ℤ) (lent number : ℕ) : Type 0 where
  pub k : ℕ
  pub of_pair : FirstFailed (asked first second lent) k
  pub or_ten : OrTen k number

-- ---- points and wedges
abbrev pub point : Coordinates → Point
point p = record { x = p.x; y = p.y }

-- the mark m, where it is within the limits
abbrev pub Within : Point → Option Coordinates → Type 0
Within m (Some c) = (point c ≡ m) × MarkInRange m
Within m None = ¬ MarkInRange m

abbrev pub wedge_of : numbers.Wedge → Wedge
wedge_of w = wedge w.centre w.from w.to

-- its corners are three of n
abbrev pub Below : ℕ → numbers.Wedge → Type 0
Below n w = (w.centre < n) × (w.from < n) × (w.to < n)

abbrev pub IsTriangle : List ℤ → numbers.Wedge → Triangle → Type 0
IsTriangle d w t =
    (point t.centre ≡ corner d w.centre) × (point t.from ≡ corner d w.from) × (point t.to ≡ corner d w.to)

-- what is divided: d is an area, and n is that times a coordinate
pub record Share (n d : ℤ) : Type 0 where
  pub some : pos 0 <ℤ d
  pub area : nat_abs d ≤ most_area
  pub far : nat_abs n ≤ most_weighed

pub record Reach (i j k : ℤ) : Type 0 where
  pub i_close : nat_abs i ≤ furthest
  pub j_close : nat_abs j ≤ furthest
  pub k_close : nat_abs k ≤ furthest

-- what the corners c, a, b weigh for the mark m, where their wedge has an area and the areas add up
abbrev pub Weighs : Point → Point → Point → Point → Option Weights → Type 0
Weighs m c a b (Some w) =
    (w.centre ≡ area m a b) × (w.from ≡ area m b c) × (w.to ≡ area m c a) × (w.whole ≡ area c a b)
Weighs m c a b None = 0 < area c a b → ¬ Adds m c a b

-- three coordinates, weighed
abbrev pub sum : Weights → ℤ → ℤ → ℤ → ℤ
sum w i j k = pos w.centre *ℤ i +ℤ pos w.from *ℤ j +ℤ pos w.to *ℤ k

abbrev pub Placed : Weights → Point → Point → Point → Place → Type 0
Placed w c a b p = InSteps (sum w c.x a.x b.x) w.whole p.x × InSteps (sum w c.y a.y b.y) w.whole p.y

-- a wedge tried
abbrev pub Tried : List ℤ → List ℤ → Point → Wedge → Option Place → Type 0
Tried first second m W (Some p) = Holds first m W × LandsBy first second m W (Some p)
Tried first second m W None = ¬ Holds first m W

-- ---- the answer's bytes
-- one piece: k, the centre, the corners
pub record Piece (n : ℕ) (L : List ℕ) : Type 0 where
  pub enough : 3 ≤ length L
  pub below : (i : ℕ) → 1 ≤ i → i < length L → get_or L i 0 < n

-- the wedges of the piece L
abbrev pub piece_fan : List ℕ → List Wedge
piece_fan L = fan (get_or L 1 0) (get_or L 2 0) (drop 2 L)

-- they are still to come, all of them; and a call of `next` gives the first
abbrev pub IsFan : List ℕ → Wedges → Type 0
IsFan L s = (s.centre ≡ get_or L 1 0) × (s.first ≡ get_or L 2 0) × (s.corners.now ≡ drop 2 L)

abbrev pub Gives : Wedges → Option numbers.Wedge → Wedges → Type 0
Gives s None t = s.corners.now ≡ []
Gives s (Some w) t =
    (s.corners.now ≡ w.from ∷ t.corners.now) × (w.centre ≡ s.centre) × (w.to ≡ following s.first t.corners.now)
    × (t.centre ≡ s.centre) × (t.first ≡ s.first)

-- the bytes of pieces of n corners, with any centres
abbrev pub Spells : ℕ → List (List ℕ) → List ℕ → Type 0
Spells n [] L = L ≡ []
Spells n (S ∷ l) L =
    (c : ℕ) × (rest : List ℕ) × (L ≡ length S ∷ c ∷ (S ++ rest)) × (c < n) × ((z : ℕ) → In z S → z < n) × (0 < length
    S) × Spells n l rest

-- the bytes can be read so
pub record Read (n : ℕ) (L : List ℕ) : Type 0 where
  pub pieces : List (List ℕ)
  pub spells : Spells n pieces L

-- for some n
pub record Told (L : List ℕ) : Type 0 where
  pub n : ℕ
  pub read : Read n L

-- how many bytes the first piece of D takes; and that it is taken, where there is one
abbrev pub taken : List ℕ → ℕ
taken D = 2 + get_or D 0 0

abbrev pub Takes : List ℕ → Option (List ℕ) → List ℕ → Type 0
Takes L None M = (L ≡ []) × (M ≡ [])
Takes L (Some piece) M = (0 < length L) × (piece ≡ take (taken L) L) × (M ≡ drop (taken L) L)

-- the mark lands by the wedges of the pieces, however the bytes are read
pub record Finds (first second : List ℤ) (m : Point) (L : List ℕ) (r : Option Place) : Type 0 where
  pub finds : (l : List (List ℕ)) → Spells (corners first) l L → Lands first second m (wedges l L) r
