-- What 01's table asks of a pair of drawings: document 01, "What comes back", lines 1 and 3 to 8. To be believed, with
-- a sound drawing as `outline` has it and the number of the first line that fails as `rules` has it.
use Rattle.std.specs.Prelude.{◌≡◌, List, [], ◌∷◌, ◌++◌, ℕ, ◌*◌, ◌≤◌, ℤ, pos, length, ◌<ℤ◌, Result, Ok, Err, ⊤}
use Rattle.limits.specs.Limits.{fewest_corners, most_corners}
use Rattle.outline.specs.Drawing.{corners, InRange, Simple, Sound, doubled_area}
use Rattle.drawing.specs.Judgement.{first_number, second_number}
use Rattle.drawing.specs.Sight.{Told}
use Rattle.drawing.specs.declared.Unsound.{Unsound}
use Rattle.rules.specs.Refusals.{Line, line, FirstFailed}
use Rattle.pair.specs.declared.Refusal.{Refusal}
use Rattle.pair.specs.declared.Refusal.TheVariants as is
use Rattle.pair.specs.declared.Which.{Which}
use Rattle.pair.specs.declared.Which.TheVariants.{First, Second}

-- line 1 is given where "a list has odd length, the lengths differ, or n is below 3 or above 64": what it asks
pub record Alike (first second : List ℤ) : Type 0 where
  pub even : length first ≡ 2 * corners first
  pub same : length second ≡ length first
  pub enough : fewest_corners ≤ corners first
  pub few : corners first ≤ most_corners

-- number 5 or 8 is given where the "doubled area [is] not above zero"
abbrev pub Anticlockwise : List ℤ → Type 0
Anticlockwise d = pos 0 <ℤ doubled_area d

-- "tried in this order: a coordinate out of range; not simple; doubled area not above zero"
abbrev pub of_drawing : ℕ → ℕ → ℕ → List ℤ → List Line
of_drawing a b c d = line a (InRange d) ∷ line b (Simple d) ∷ line c (Anticlockwise d) ∷ []

-- "3, 4, 5 | the first drawing" and "6, 7, 8 | the same for the second drawing"
abbrev pub of_drawings : List ℤ → List ℤ → List Line
of_drawings first second = of_drawing 3 4 5 first ++ of_drawing 6 7 8 second

abbrev pub lines : List ℤ → List ℤ → List Line
lines first second = line 1 (Alike first second) ∷ of_drawings first second

-- ---- 01's number for each refusal, and 0 where nothing is refused
abbrev pub number : Refusal → ℕ
number is.Unlike = 1
number is.FirstOutOfRange = 3
number is.FirstNotSimple = 4
number is.FirstNotAnticlockwise = 5
number is.SecondOutOfRange = 6
number is.SecondNotSimple = 7
number is.SecondNotAnticlockwise = 8

abbrev pub result_number : Result ⊤ Refusal → ℕ
result_number (Ok _) = 0
result_number (Err refusal) = number refusal

-- 01's number for a judgement, by the drawing that was judged
abbrev pub number_of : Which → Result ⊤ Unsound → ℕ
number_of First = first_number
number_of Second = second_number

-- ---- what `sight` promises: the number of the first of these lines that fails, or 0
pub record Checks (first second : List ℤ) (number : ℕ) : Type 0 where
  pub numbered : FirstFailed (lines first second) number

-- where line 1 does not apply and the first drawing is sound, its sight is told; else its cells keep their values
pub record FirstTold (first second : List ℤ) (before after : List ℕ) : Type 0 where
  pub told : Alike first second → Sound first → Told first before after
  pub kept : ¬ (Alike first second × Sound first) → after ≡ before

-- where no line applies, that of the second is told; else its cells keep their values
pub record SecondTold (second : List ℤ) (number : ℕ) (before after : List ℕ) : Type 0 where
  pub told : number ≡ 0 → Told second before after
  pub kept : ¬ (number ≡ 0) → after ≡ before
