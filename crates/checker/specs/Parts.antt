-- What the private functions promise and ask. Tests of the corners of a piece are Booleans that go along the list;
-- what they tell is for the proofs.
use Rattle.std.specs.Prelude.{◌≡◌, Bool, true, false, cond, not, ◌&&◌, ◌⊎◌, List, [], ◌∷◌, ◌++◌, ℕ, suc, ◌%◌, ◌≤◌, eqb, ltb, length, get_or, set, Option, MatchOption}
use Rattle.limits.specs.Limits.{place}
use Rattle.outline.specs.Tells.{Tells}
use Rattle.rules.specs.Lists.{In, Rising}
use Rattle.rules.specs.Cutting.{closing}
use Rattle.rules.specs.Cells.{cell, filled, StrictlySees, CentreSees}
use Rattle.checker.specs.Checks.{Entry, laid, Listed, corner_lists, IsCutting}
use Rattle.checker.specs.Checks.{Sight, FirstFailed, of_pieces}
use Rattle.checker.specs.declared.flat.Verdict.{Verdict}
use Rattle.checker.specs.declared.pieces.Piece.{Piece}

-- ---- the corners of a piece, where they are handed on alone
pub record Corners (S : List ℕ) : Type 0 where
  pub three : 3 ≤ length S
  pub rising : Rising S

abbrev pub piece : ℕ → List ℕ → Entry
piece centre corners = record { centre = centre; corners = corners }

-- bytes that are pieces with such corners
pub record Readable (bytes : List ℕ) : Type 0 where
  pub entries : List Entry
  pub are : bytes ≡ laid entries
  pub each : (e : Entry) → In e entries → Corners e.corners

-- a piece at the head of bytes, and the bytes after it; or none
abbrev pub spelt : Entry → List ℕ → List ℕ
spelt e after = length e.corners ∷ e.centre ∷ (e.corners ++ after)

abbrev pub NoPiece : List ℕ → Type 0
NoPiece bytes = (e : Entry) (after : List ℕ) → ¬ (bytes ≡ spelt e after)

-- what `Pieces` gives of the bytes that are left, and leaves
abbrev pub as_entry : Piece → Entry
as_entry p = piece p.centre p.corners.now

abbrev pub Reads : List ℕ → Option Piece → List ℕ → Type 0
Reads left r after = MatchOption r (NoPiece left × (after ≡ left)) (λ p. left ≡ spelt (as_entry p) after)

-- ---- tests along a list: of each step, from a corner to the next
abbrev pub along : (ℕ → ℕ → Bool) → ℕ → List ℕ → Bool
along p a [] = true
along p a (b ∷ s) = p a b && along p b s

abbrev pub each_step : (ℕ → ℕ → Bool) → List ℕ → Bool
each_step p [] = true
each_step p (a ∷ s) = along p a s

-- ---- 21: the corners rise, and those after the first are below n
abbrev pub rises : ℕ → ℕ → ℕ → Bool
rises n x y = ltb x y && ltb y n

-- ---- 22: the lines of the pieces, marked in two tables of cells
-- the cell of a piece's closing line
abbrev pub closed : List ℕ → List ℕ → ℕ
closed t S = get_or t (closing place S) 0

-- the steps of a piece are marked
abbrev pub step_on : ℕ → List ℕ → List ℕ → List ℕ
step_on a [] t = t
step_on a (b ∷ s) t = step_on b s (set t (place a b) 1)

abbrev pub stepped : List ℕ → List ℕ → List ℕ
stepped [] t = t
stepped (a ∷ s) t = step_on a s t

-- a piece that closes on a line that is not marked yet, and all pieces one after another
pub record MarksPiece (S c t c' t' : List ℕ) (r : Bool) : Type 0 where
  pub taken : r ≡ false → ¬ (closed c S ≡ 0)
  pub free : r ≡ true → closed c S ≡ 0
  pub closes : r ≡ true → c' ≡ set c (closing place S) 1
  pub steps : r ≡ true → t' ≡ stepped S t

abbrev pub Marks : List (List ℕ) → List ℕ → List ℕ → List ℕ → List ℕ → Bool → Type 0
Marks [] c t c' t' r = (r ≡ true) × (c' ≡ c) × (t' ≡ t)
Marks (S ∷ L) c t c' t' r =
    ((¬ (closed c S ≡ 0)) × (r ≡ false)) ⊎
    ((closed c S ≡ 0) × Marks L (set c (closing place S) 1) (stepped S t) c' t' r)

abbrev pub MarksAll : List ℕ → List ℕ → List ℕ → List ℕ → List ℕ → Bool → Type 0
MarksAll bytes c t c' t' r = (l : List Entry) × (bytes ≡ laid l) × Marks (corner_lists l) c t c' t' r

-- a step is a side, or it is marked; the closing line is marked
abbrev pub closes : List ℕ → ℕ → ℕ → Bool
closes c x y = cond (ltb (suc x) y) (filled c x y) true

abbrev pub fits : List ℕ → List ℕ → List ℕ → Bool
fits c t S = each_step (closes c) S && not (eqb (closed t S) 0)

abbrev pub all_fit : List ℕ → List ℕ → List (List ℕ) → Bool
all_fit c t [] = true
all_fit c t (S ∷ L) = fits c t S && all_fit c t L

abbrev pub FitsAll : List ℕ → List ℕ → List ℕ → Bool → Type 0
FitsAll bytes c t r = (l : List Entry) × (bytes ≡ laid l) × (r ≡ all_fit c t (corner_lists l))

abbrev pub TellsCutting : ℕ → List ℕ → Bool → Type 0
TellsCutting n bytes r = (l : List Entry) → Listed n bytes l → Tells r (IsCutting n l)

-- ---- 23 and 24: sight as cells tell it
abbrev pub in_cells : List ℕ → Sight
in_cells t = record { strictly = StrictlySees t; as_centre = CentreSees t }

abbrev pub strictly_sees : List ℕ → ℕ → ℕ → Bool
strictly_sees t x y = eqb (cell t x y % 2) 1

abbrev pub FirstFault : List ℕ → List ℕ → List ℕ → Verdict → Type 0
FirstFault first second bytes v =
    (l : List Entry) × (bytes ≡ laid l) × FirstFailed (of_pieces (in_cells first) (in_cells second) 0 l) v
