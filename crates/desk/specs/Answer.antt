-- What comes back for a pair of drawings: document 01, "Cuttings" and "What comes back", whole. This is the demand
-- that the desk is proved against, and what a reader has to believe, with the definitions of `outline` (a sound
-- drawing, the two kinds of sight), of `pair` (what is asked of two drawings) and of `rules` (cuttings, the one that
-- comes first, the layout of its bytes, numbered lines, what comes back).
use Rattle.std.specs.Prelude.{List, [], ◌∷◌, ◌++◌, ℕ, ℤ, length, Ok, Err}
use Rattle.std.specs.Prelude as std
use Rattle.limits.specs.Limits.{Roomy}
use Rattle.outline.specs.Drawing.{corners, Sees}
use Rattle.outline.specs.InOrOn.{CentreSees}
use Rattle.pair.specs.Pair.{Alike, of_drawings}
use Rattle.pair.specs.Pair as pair
use Rattle.rules.specs.Cutting.{Pairs}
use Rattle.rules.specs.Refusals.{Line, line}
use Rattle.rules.specs.Plan.{Plan, stars, ValidBy, FirstBy, Cuttable}
use Rattle.rules.specs.Result.{Result, ComesBack}
use Rattle.telling.specs.declared.Told.{Told}
use Rattle.desk.specs.declared.Outcome.{Outcome}
use Rattle.desk.specs.declared.Refusal.{Refusal}
use Rattle.desk.specs.declared.Refusal.TheVariants.{Pair, Room, NoCutting}

-- ---- 01, "Cuttings", of two drawings. There are two kinds of sight since 02, K3: "for a centre, sight holds when
-- every point of the segment lies in or on the outline. A cut keeps the strict rule."
module _ (first second : List ℤ) where
  -- "A cut is a pair that is no side and whose corners see each other in both drawings": by 01's own rule, the strict
  -- one (what a side is: `Cutting` of `rules`)
  abbrev pub Cut : ℕ → ℕ → Type 0
  Cut a b = (Sees first a b × Sees second a b) × (Sees first b a × Sees second b a)

  -- a centre x sees y in both drawings
  abbrev pub InBoth : ℕ → ℕ → Type 0
  InBoth x y = CentreSees first x y × CentreSees second x y

  -- "A centre of a piece is one of its own corners that sees every corner of it in both drawings."
  abbrev pub plan : Plan
  plan = stars Cut InBoth

  -- "A cutting is valid when every piece has a centre."
  abbrev pub ValidCutting : Pairs → Type 0
  ValidCutting C = ValidBy plan (corners first) C

  -- valid, with the fewest pieces, and first among those
  abbrev pub FirstCutting : Pairs → Type 0
  FirstCutting C = FirstBy plan (corners first) C

-- number 9 is given where this fails: "no valid cutting exists"
abbrev pub of_cutting : List ℤ → List ℤ → List Line
of_cutting first second = line 9 (Cuttable (plan first second) (corners first)) ∷ []

-- ---- 01's table, line by line: what each line asks, and the number that is given where it fails
abbrev pub asked : List ℤ → List ℤ → ℕ → List Line
asked first second room =
    -- "a list has odd length, the lengths differ, or n is below 3 or above 64"
    line 1 (Alike first second)
    -- "the room is under 5n-10 bytes"
    ∷ line 2 (Roomy (corners first) room)
    -- "3, 4, 5 | the first drawing .. 6, 7, 8 | the same for the second drawing"
    ∷ of_drawings first second
    -- "no valid cutting exists"
    ++ of_cutting first second

-- ---- the answer: its number by the table, what each number brings, and every byte of the buffer
abbrev pub Answers : List ℤ → List ℤ → List ℕ → Result → Type 0
Answers first second before r =
    ComesBack (asked first second (length before)) (plan first second) (corners first) before r

-- ---- 01's number for each refusal, and number and values for each case: what a call returns and the buffer after it,
-- as 01's result
abbrev pub number : Refusal → ℕ
number (Pair refusal) = pair.number refusal
number Room = 2
number NoCutting = 9

abbrev pub result_of : std.Result Told Refusal → List ℕ → Result
result_of (Ok told) after = record { number = 0; count = told.pieces; bytes = told.bytes; after = after }
result_of (Err refusal) after = record { number = number refusal; count = 0; bytes = 0; after = after }

-- the same of what a call for C returns
abbrev pub for_c : Outcome → List ℕ → Result
for_c o after = record { number = o.number; count = o.pieces; bytes = o.bytes; after = after }

-- what such a call returns for each case
abbrev pub outcome_of : std.Result Told Refusal → Outcome
outcome_of (Ok told) = record { number = 0; pieces = told.pieces; bytes = told.bytes }
outcome_of (Err refusal) = record { number = number refusal; pieces = 0; bytes = 0 }
