-- The frames on the wire: document 01, "The frames on the wire", read for a whole input. To be believed.
-- An input is any list of bytes, numbers below 256. A character is its number in ASCII: 48 is 0, 65 is A, 10 is the
-- line feed. `events` says what the input tells: its pairs of drawings in order and, where 01 says so, a fault at the
-- end.
use Rattle.std.specs.Prelude.{ℕ, ◌+◌, ◌-◌, ◌*◌, ◌/◌, ◌%◌, cond, ◌&&◌, List, [], ◌∷◌, ◌++◌, length, ℤ, pos, ◌-ℤ◌, ◌==◌, nat_le, nat_lt}
use Rattle.std.proofs.Math.Option.{Option, none, some}
use Rattle.limits.specs.Limits.{most_corners}

-- ---- 01: "lines of hexadecimal, one frame a line, digits 0-9 and A-F, each ended by a line feed"
abbrev pub line_feed : ℕ
line_feed = 10

-- the value of a digit; any other character, a to f among them, is none
abbrev pub digit : ℕ → Option ℕ
digit c = cond (nat_le 48 c && nat_le c 57) (some (c - 48)) (cond (nat_le 65 c && nat_le c 70) (some (c - 55)) none)

-- an input, cut at its line feeds: what stands before each of them, and what stands after the last
pub record Text : Type 0 where
  pub lines : List (List ℕ)
  pub rest : List ℕ

-- a character in front of a text: a line feed ends a line that is empty so far, any other belongs to the first line,
-- or to the rest where there is no line
abbrev pub in_front : ℕ → List (List ℕ) → List ℕ → Text
in_front c [] r = record { lines = []; rest = c ∷ r }
in_front c (l ∷ more) r = record { lines = (c ∷ l) ∷ more; rest = r }

abbrev pub led_by : ℕ → Text → Text
led_by c t =
    cond (c == line_feed) (record { lines = [] ∷ t.lines; rest = t.rest }) (in_front c t.lines t.rest)

abbrev pub in_lines : List ℕ → Text
in_lines [] = record { lines = []; rest = [] }
in_lines (c ∷ input) = led_by c (in_lines input)

-- ---- the bytes of a line: two digits make a byte, the high one first; none where a character is no digit or one is
-- left over
abbrev pub join : Option ℕ → Option ℕ → Option (List ℕ) → Option (List ℕ)
join none low more = none
join (some h) none more = none
join (some h) (some l) none = none
join (some h) (some l) (some more) = some ((16 * h + l) ∷ more)

abbrev pub bytes : List ℕ → Option (List ℕ)
bytes [] = some []
bytes (a ∷ []) = none
bytes (a ∷ b ∷ more) = join (digit a) (digit b) (bytes more)

-- ---- 01: "x and y, three bytes each, high byte first, two's complement"
abbrev pub two's_complement : ℕ → ℤ
two's_complement m = cond (nat_lt m 0x800000) (pos m) (pos m -ℤ pos 0x1000000)

abbrev pub number : ℕ → ℕ → ℕ → ℤ
number a b c = two's_complement (0x10000 * a + 0x100 * b + c)

abbrev pub numbers : List ℕ → List ℤ
numbers [] = []
numbers (a ∷ []) = []
numbers (a ∷ b ∷ []) = []
numbers (a ∷ b ∷ c ∷ more) = number a b c ∷ numbers more

-- ---- 01: "A frame is a byte 10 (first drawing) or 20 (second), a byte n from 00 to 40 (hexadecimal), then for each
-- corner x and y, three bytes each"
abbrev pub first_tag : ℕ
first_tag = 0x10

abbrev pub second_tag : ℕ
second_tag = 0x20

-- the numbers x0, y0, x1, y1 and so on of a line that is a frame with this first byte; none for a line of another
-- form. 40 is the limit of 64 corners.
abbrev pub framed : ℕ → Option (List ℕ) → Option (List ℤ)
framed tag none = none
framed tag (some []) = none
framed tag (some (t ∷ [])) = none
framed tag (some (t ∷ n ∷ corners)) =
    cond (t == tag && nat_le n most_corners && length corners == 6 * n) (some (numbers corners)) none

abbrev pub frame : ℕ → List ℕ → Option (List ℤ)
frame tag line = framed tag (bytes line)

-- ---- 01: "A 10 and a 20 make a pair. .. A line of another form, a frame out of turn, or an input that ends after a
-- 10 gives the line EF and ends the run. Empty input writes nothing."
pub data Event : Type 0 where
  pair : List ℤ → List ℤ → Event
  fault : Event

-- two lines, and the events after them, which are told only if the lines are a pair
abbrev pub paired : Option (List ℤ) → Option (List ℤ) → List Event → List Event
paired none b more = fault ∷ []
paired (some a) none more = fault ∷ []
paired (some a) (some b) more = pair a b ∷ more

-- the lines are taken two by two. An input that ends inside a line ends with a line of another form. One line with no
-- line after it is a 10 after which the input ends, or no line of a pair at all: a fault in every case.
abbrev pub events_of : List (List ℕ) → List ℕ → List Event
events_of [] [] = []
events_of [] (c ∷ r) = fault ∷ []
events_of (a ∷ []) r = fault ∷ []
events_of (a ∷ b ∷ more) r = paired (frame first_tag a) (frame second_tag b) (events_of more r)

abbrev pub events : List ℕ → List Event
events input = events_of (in_lines input).lines (in_lines input).rest

-- ---- the lines of an answer
-- 01: "one line of the same digits, ended by a line feed"
abbrev pub digit_of : ℕ → ℕ
digit_of v = cond (nat_lt v 10) (48 + v) (55 + v)

abbrev pub digits_of : List ℕ → List ℕ
digits_of [] = []
digits_of (b ∷ more) = digit_of (b / 16) ∷ digit_of (b % 16) ∷ digits_of more

abbrev pub line_of : List ℕ → List ℕ
line_of bs = digits_of bs ++ line_feed ∷ []

-- 01: "A0, the count of pieces in one byte and the answer bytes; or E0 and the refusal number in one byte"; "gives the
-- line EF"
abbrev pub answer_line : ℕ → List ℕ → List ℕ
answer_line pieces answer = line_of (0xA0 ∷ pieces ∷ answer)

abbrev pub refusal_line : ℕ → List ℕ
refusal_line number = line_of (0xE0 ∷ number ∷ [])

abbrev pub fault_line : List ℕ
fault_line = line_of (0xEF ∷ [])
