-- What `tell` promises. To be believed, with the definitions of `rules` that it cites (`Cutting`, `Centre`, `Cells`,
-- `Refusals`, `Result`).
--
-- The caller gives n, a set of pairs and two drawings' sight in flat cells, and a buffer. In words: what is not served
-- is refused and nothing is written; otherwise the buffer begins with the pieces told of the pairs, each k, the lowest
-- centre, its corners, and the rest of it is as before. Nothing is asked of the pairs: `pieces` is defined for all of
-- them, crossing ones too, and never takes more than 5n-10 bytes (`any_room` of `rules`). No second result and no
-- second buffer satisfy it (`tell_unique`).
use Rattle.std.specs.Prelude.{◌≡◌, List, [], ◌∷◌, ℕ, ◌<◌, ◌≤◌, length, Ok, Err}
use Rattle.std.specs.Prelude as std
use Rattle.limits.specs.Limits.{fewest_corners, most_corners, all_cells, Roomy}
use Rattle.rules.specs.Cutting.{pieces}
use Rattle.rules.specs.Centre.{LowestOrZero}
use Rattle.rules.specs.Cells.{marked, InBoth}
use Rattle.rules.specs.Refusals.{Line, line, FirstFailed}
use Rattle.rules.specs.Result.{Result, Refused, Carries}
use Rattle.telling.specs.declared.Told.{Told}
use Rattle.telling.specs.declared.Refusal.{Refusal}
use Rattle.telling.specs.declared.Refusal.TheVariants.{Unserved, Short}

-- ---- 01's number for each refusal, and number and values for each case
abbrev pub number : Refusal → ℕ
number Unserved = 1
number Short = 2

abbrev pub result_of : std.Result Told Refusal → List ℕ → Result
result_of (Ok told) after = record { number = 0; count = told.pieces; bytes = told.bytes; after = after }
result_of (Err e) after = record { number = number e; count = 0; bytes = 0; after = after }

-- ---- the lines of 01's table that can apply here
-- 3 to 64 corners, and whole arrays of cells
pub record Served (n : ℕ) (pairs first second : List ℕ) : Type 0 where
  pub enough : fewest_corners ≤ n
  pub few : n ≤ most_corners
  pub pairs_whole : all_cells ≤ length pairs
  pub first_whole : all_cells ≤ length first
  pub second_whole : all_cells ≤ length second

abbrev pub asked : ℕ → List ℕ → List ℕ → List ℕ → ℕ → List Line
asked n pairs first second room = line 1 (Served n pairs first second) ∷ line 2 (Roomy n room) ∷ []

-- ---- the promise: a refusal by these lines, or the pieces told; a piece without a centre has 0 in its place
pub record Telling (n : ℕ) (pairs first second before : List ℕ) (r : Result) : Type 0 where
  pub numbered : FirstFailed (asked n pairs first second (length before)) r.number
  pub refused : 0 < r.number → Refused before r
  pub given : r.number ≡ 0 → Carries (LowestOrZero (InBoth first second)) (pieces n (marked pairs)) before r
