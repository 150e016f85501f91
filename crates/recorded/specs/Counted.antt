-- Lists of a text that say how long they are, and the buffers that they are read into. To be believed.
use Rattle.std.specs.Prelude.{Option, Result, Ok, Err, unwrap_or, cond, List, [], ◌∷◌, ℕ, zero, suc, leb, ltb, ℤ, pos, length, get_or}
use Rattle.recorded.specs.Decimals.{natural, byte, whole, first_word, after, within, place, all_numbers, byte_in, whole_in}
use Rattle.recorded.specs.Lent.{unwritten}

abbrev pub up_to : ℕ → ℕ → ℕ
up_to most n = cond (leb n most) n 0

-- what the first word tells; where it tells none, the first number that has no room in 32 bits
abbrev pub no_number : ℕ
no_number = 4294967296

abbrev pub first_number : List ℕ → ℕ → ℕ
first_number text at = unwrap_or (natural (first_word text at)) no_number

-- the same up to `most`, or none
abbrev pub fitting : List ℕ → ℕ → ℕ → Option ℕ
fitting text at most = within most (natural (first_word text at))

-- ---- how many, then each; nothing is read where they are more than `most`. Where a word tells no number, how many
-- ---- words there were all the same
abbrev pub counted : {A : Type 0} → (List ℕ → Option A) → List ℕ → ℕ → ℕ → Result ℕ ℕ
counted tell text at most =
    cond (leb (first_number text at) most)
    (cond (all_numbers tell text (after text at) (first_number text at)) (Ok (first_number text at))
    (Err (first_number text at))) (Err 0)

abbrev pub counted_wholes : List ℕ → ℕ → ℕ → Result ℕ ℕ
counted_wholes = counted whole

abbrev pub counted_bytes : List ℕ → ℕ → ℕ → Result ℕ ℕ
counted_bytes = counted byte

-- how many there were, whether all are numbers or not
abbrev pub how_many : Result ℕ ℕ → ℕ
how_many (Ok n) = n
how_many (Err n) = n

-- where the text goes on
abbrev pub list_end : List ℕ → ℕ → ℕ → ℕ
list_end text at most = place text (after text at) (up_to most (first_number text at))

-- ---- what stands in a buffer then: in front the numbers read, and after them what was there
abbrev pub in_front : {A : Type 0} → ℕ → (ℕ → A) → (ℕ → A) → ℕ → A
in_front n item rest k = cond (ltb k n) (item k) (rest k)

abbrev pub list_in : List ℕ → ℕ → List ℤ → ℕ → ℤ
list_in text at before =
    in_front (up_to (length before) (first_number text at)) (whole_in text (after text at))
    (λ k. get_or before k (pos 0))

-- the buffer that a call must leave: the bytes told, and after them what each held before it was lent
abbrev pub left_in : List ℕ → ℕ → ℕ → ℕ → ℕ
left_in text at room =
    in_front (up_to room (first_number text at)) (byte_in text (after text at)) unwritten

-- ---- the numbers read, as a list
abbrev pub told : {A : Type 0} → (ℕ → A) → ℕ → List A
told item zero = []
told item (suc n) = item 0 ∷ told (λ k. item (suc k)) n
