-- What a corner knows of the sides: which it lies left of, which right of, on the line of which, and which have an end
-- lower than it or west of it, each as a mask with a digit for each side; and how many of the two sides at it another
-- corner has to lie left of, to be inside the angle there.
use Rattle.std.specs.Prelude.{◌≡◌, ◌⊎◌, List, ℕ, ◌^◌, ◌<◌, min, max, ℤ, pos, get_or, ◌<ℤ◌}
use Rattle.whole.specs.Bits.{bit}
use Rattle.whole.specs.Masks.{Marks}
use Rattle.outline.specs.Drawing.{corner, corners, after, prev, turn_of, EndsAt, Angle, Shared}
use Rattle.outline.specs.Segments.{Apart}
use Rattle.outline.specs.Placed.{On}
use Rattle.drawing.specs.Meeting.{Meets}
use Rattle.drawing.specs.declared.faced.Bends.{Bends}
use Rattle.drawing.specs.declared.masks.Known.{Known}
use Rattle.drawing.specs.declared.segment.Met.{Met}
use Rattle.drawing.specs.declared.segment.Met.TheVariants as is

module _ (d : List ℤ) where
  -- ---- corner i against side k
  abbrev pub side_turn : ℕ → ℕ → ℤ
  side_turn i k = turn_of (corner d k) (corner d (after d k)) (corner d i)

  abbrev pub Left : ℕ → ℕ → Type 0
  Left i k = pos 0 <ℤ side_turn i k

  abbrev pub Right : ℕ → ℕ → Type 0
  Right i k = side_turn i k <ℤ pos 0

  abbrev pub OnLine : ℕ → ℕ → Type 0
  OnLine i k = side_turn i k ≡ pos 0

  -- on its line, and no end of it
  abbrev pub Along : ℕ → ℕ → Type 0
  Along i k = OnLine i k × (¬ EndsAt d k i)

  -- ---- the angle at corner i
  abbrev pub TurnsLeft : ℕ → Type 0
  TurnsLeft i = pos 0 <ℤ turn_of (corner d (prev (corners d) i)) (corner d i) (corner d (after d i))

  -- of the two sides at i, how many j has to lie left of to be inside: 2 where i turns left and 1 where not
  abbrev pub Needs : ℕ → ℕ → Type 0
  Needs i v = ((v ≡ 2) × TurnsLeft i) ⊎ ((v ≡ 1) × (¬ TurnsLeft i))

  -- side k has an end strictly lower than corner i, or strictly west of it
  abbrev pub Low : ℕ → ℕ → Type 0
  Low i k = ((corner d k).y <ℤ (corner d i).y) ⊎ ((corner d (after d k)).y <ℤ (corner d i).y)

  abbrev pub West : ℕ → ℕ → Type 0
  West i k = ((corner d k).x <ℤ (corner d i).x) ⊎ ((corner d (after d k)).x <ℤ (corner d i).x)

  -- ---- the line of sight ij and side k
  -- the side's line has i and j strictly apart, or both are on it
  abbrev pub Open : ℕ → ℕ → ℕ → Type 0
  Open i j k = Apart (side_turn i k) (side_turn j k) ⊎ (Along i k × Along j k)

  -- they share a point
  abbrev pub Hides : ℕ → ℕ → ℕ → Type 0
  Hides i j k = Shared (corner d i) (corner d j) (corner d k) (corner d (after d k))

  -- the sides that m marks are open, and every open side that hides is among them
  pub record Looks (i j m : ℕ) : Type 0 where
    pub is_open : (k : ℕ) → bit m k ≡ 1 → (k < corners d) × Open i j k
    pub all : (k : ℕ) → k < corners d → Open i j k → Hides i j k → bit m k ≡ 1

  -- how ij meets side k
  abbrev pub MeetsSide : ℕ → ℕ → ℕ → Met → Type 0
  MeetsSide i j k w = Meets (corner d i) (corner d j) (corner d k) (corner d (after d k)) w

  -- corner k lies on the segment ij
  abbrev pub LiesOn : ℕ → ℕ → ℕ → Type 0
  LiesOn k i j = On (corner d k) (corner d i) (corner d j)

  -- an open side that ij touches
  pub record TouchedSide (i j k : ℕ) : Type 0 where
    pub differ : ¬ (corner d i ≡ corner d j)
    pub is_open : Open i j k
    pub touches : MeetsSide i j k is.Touched

-- of two corners on one axis: the marks of either are marks of m, and every side is one, where neither is further
abbrev pub Reaches : ℤ → ℕ → ℤ → ℕ → ℕ → Type 0
Reaches p u q w m = (k : ℕ) → k < 64 → (p ≡ q) ⊎ ((bit u k ≡ 1) ⊎ (bit w k ≡ 1)) → bit m k ≡ 1

-- ---- what a corner knows
-- where corner i lies against every side, and what it needs
pub record Knows (d : List ℤ) (i : ℕ) (k : Known) : Type 0 where
  pub left_of : Marks (corners d) k.left (Left d i)
  pub right_of : Marks (corners d) k.right (Right d i)
  pub along_of : Marks (corners d) k.along (Along d i)
  pub low_of : Marks (corners d) k.low (Low d i)
  pub west_of : Marks (corners d) k.west (West d i)
  pub left_fits : k.left < 2 ^ corners d
  pub needs : Needs d i k.need

-- a list has what each corner knows, in their order; behind the last corner stands anything
abbrev pub nothing : Known
nothing = record { left = 0; right = 0; along = 0; low = 0; west = 0; need = 0 }

abbrev pub known_of : List Known → ℕ → Known
known_of w i = get_or w i nothing

abbrev pub need_of : List Known → ℕ → ℕ
need_of w j = (known_of w j).need

-- it holds what the corners before t know
abbrev pub AllKnown : List ℤ → ℕ → List Known → Type 0
AllKnown d t w = (i : ℕ) → i < t → Knows d i (known_of w i)

-- ---- masks with a digit for each corner
-- the corners that have corner i inside the angle
abbrev pub FacedBy : List ℤ → ℕ → ℕ → Type 0
FacedBy d i f = Marks (corners d) f (λ j. Angle d j i)

-- a mask of n digits turned by one: digit k is the digit of the corner before k
abbrev pub Around : ℕ → ℕ → ℕ → Type 0
Around n m r = (k : ℕ) → k < n → bit r k ≡ bit m (prev n k)

-- of the corners that need two those that have both of their digits, of those that need one those that have either
pub record Faced (n left : ℕ) (b : Bends) (r : ℕ) : Type 0 where
  pub at : (k : ℕ) → k < n →
      bit r k ≡ max (min (min (bit b.two k) (bit left k)) (bit left (prev n k)))
      (min (bit b.one k) (max (bit left k) (bit left (prev n k))))
  pub off : (k : ℕ) → bit b.two k ≡ 0 → bit b.one k ≡ 0 → bit r k ≡ 0
