-- What the program writes for each line that it reads. To be believed, with `recorded`'s words and numbers of a text
-- and what `carry` of `marks` promises.
--
-- A question is a line of decimal numbers with blanks between them. The first says what is asked:
--     1 k x0 y0 .. k x0 y0 .. x y    where the mark (x, y) lands: the first drawing and the second, each with how many
--                                    numbers it has in front, then the mark
-- The answer is a line too:
--     0 step rest step rest    a place: for x and for y the whole steps, and the 64 bits of the rest of a step
--     0                        on no piece
--     k                        the number of the refusal
--     ?                        the line was no question
use Rattle.std.specs.Prelude.{Result, Ok, Err, ◌≡◌, Bool, cond, ◌&&◌, List, [], ◌∷◌, ◌++◌, ℕ, zero, suc, ◌+◌, ◌/◌, ◌%◌, eqb, ltb, leb, ℤ, pos, negsuc, length, replicate, Option, Some, None}
use Rattle.std.specs.Option.{option_and_then}
use Rattle.std.specs.Result.{result_ok}
use Rattle.std.specs.Float.{binary64}
use Rattle.std.specs.Float.Ieee.{to_bits}
use Rattle.limits.specs.Limits.{most_numbers, room}
use Rattle.recorded.specs.Decimals.{word_start, after, place, whole, whole_in, all_numbers}
use Rattle.recorded.specs.Counted.{first_number, counted_wholes, list_end, told}
use Rattle.marks.specs.Carry.{mark, number, CarriesMark, result_of, landing_of}
use Rattle.marks.specs.declared.Axis.{Axis}
use Rattle.marks.specs.declared.Carried.{Carried}
use Rattle.marks.specs.declared.Place.{Place}
use Rattle.marks.specs.declared.Refusal.{Refusal}

-- ---- what a line asks
pub data Question : Type 0 where
  mark_asked : (first second : List ℤ) (x y : ℤ) → Question

-- a line of so many bytes is no question, whatever it says
abbrev pub line_limit : ℕ
line_limit = 4096

-- so many numbers from a place on
abbrev pub numbers : List ℕ → ℕ → ℕ → List ℤ
numbers line at n = told (whole_in line at) n

-- after the number that says so: two drawings, the mark, and no more words
module _ (line : List ℕ) (at : ℕ) where
  abbrev pub second_at : ℕ
  second_at = list_end line at most_numbers

  abbrev pub mark_at : ℕ
  mark_at = list_end line second_at most_numbers

  abbrev pub ends : Bool
  ends = leb (length line) (word_start line (place line mark_at 2))

  -- drawings of so many numbers each
  abbrev pub the_mark : ℕ → ℕ → Question
  the_mark a b =
      mark_asked (numbers line (after line at) a) (numbers line (after line second_at) b) (whole_in line mark_at 0)
      (whole_in line mark_at 1)

  abbrev pub mark_question : Option Question
  mark_question =
      option_and_then (λ a. option_and_then (λ b. cond (all_numbers whole line mark_at 2 && ends) (Some (the_mark a b))
      None) (result_ok (counted_wholes line second_at most_numbers))) (result_ok (counted_wholes line at most_numbers))

-- what the first number asks for
abbrev pub asks : List ℕ → ℕ → ℕ → Option Question
asks line kind at = cond (eqb kind 1) (mark_question line at) None

unfoldable pub question : List ℕ → Option Question
question line = cond (ltb (length line) line_limit) (asks line (first_number line 0) (after line 0)) None

-- ---- numbers as text, without zeros in front; no number of 64 bits has more than 20 digits
abbrev pub spelt : ℕ → ℕ → List ℕ
spelt zero n = []
spelt (suc places) n = cond (ltb n 10) [] (spelt places (n / 10)) ++ (48 + n % 10) ∷ []

unfoldable pub natural_text : ℕ → List ℕ
natural_text n = spelt 20 n

unfoldable pub whole_text : ℤ → List ℕ
whole_text (pos n) = natural_text n
whole_text (negsuc n) = 45 ∷ natural_text (suc n)

-- ---- the line of an answer
unfoldable pub axis_text : Axis → List ℕ
axis_text a = 32 ∷ (whole_text a.step ++ 32 ∷ natural_text (to_bits binary64 a.rest))

unfoldable pub landing_text : Option Place → List ℕ
landing_text None = []
landing_text (Some p) = axis_text p.x ++ axis_text p.y

abbrev pub mark_line : ℕ → Option Place → List ℕ
mark_line number landing = natural_text number ++ (landing_text landing ++ 10 ∷ [])

-- 0 where the pair gets its cutting
abbrev pub number_of : Result Carried Refusal → ℕ
number_of (Ok c) = 0
number_of (Err refusal) = number refusal

abbrev pub told_line : Result Carried Refusal → List ℕ
told_line r = mark_line (number_of r) (landing_of r)

-- a question mark
abbrev pub no_question : List ℕ
no_question = 63 ∷ 10 ∷ []

-- what `carry` gives with a room of 310 zeros, which is enough for every pair
pub record MarkTold (first second : List ℤ) (x y : ℤ) (w : List ℕ) : Type 0 where
  pub carried : Result Carried Refusal
  pub after : List ℕ
  pub carries :
      CarriesMark first second (mark x y) (replicate room 0) (result_of carried after) (landing_of carried)
  pub is_line : w ≡ told_line carried

-- `reply`
abbrev pub Answers : Option Question → List ℕ → Type 0
Answers (Some (mark_asked first second x y)) w = MarkTold first second x y w
Answers None w = w ≡ no_question
