-- Words and decimal numbers of a text. To be believed. A text is a list of bytes, a character its number in ASCII. Up
-- to 32, the space, a byte is a blank; a word is a run of others.
use Rattle.std.specs.Prelude.{Option, Some, None, unwrap_or, ◌≡◌, Bool, true, false, cond, ◌&&◌, List, [], ◌∷◌, ℕ, zero, suc, ◌+◌, ◌*◌, ◌-◌, eqb, leb, ℤ, pos, ◌-ℤ◌, length, drop}
use Rattle.recorded.specs.declared.words.Words.{Words}

-- ---- words
-- how many blanks a text begins with, and the word that it begins with
abbrev pub blanks : List ℕ → ℕ
blanks [] = 0
blanks (c ∷ text) = cond (leb c 32) (suc (blanks text)) 0

abbrev pub word : List ℕ → List ℕ
word [] = []
word (c ∷ text) = cond (leb c 32) [] (c ∷ word text)

-- the word that begins at a place, and where it ends; where the first word from a place on begins
unfoldable pub word_at : List ℕ → ℕ → List ℕ
word_at text at = word (drop at text)

unfoldable pub word_end : List ℕ → ℕ → ℕ
word_end text at = at + length (word_at text at)

unfoldable pub word_start : List ℕ → ℕ → ℕ
word_start text at = at + blanks (drop at text)

-- ---- the number that a word tells
-- what digits tell after some that tell m; none where a character is no digit
abbrev pub decimal : ℕ → List ℕ → Option ℕ
decimal m [] = Some m
decimal m (c ∷ w) = cond (leb 48 c && leb c 57) (decimal (m * 10 + (c - 48)) w) None

abbrev pub within : ℕ → Option ℕ → Option ℕ
within most None = None
within most (Some m) = cond (leb m most) (Some m) None

-- a number of 32 bits that is not below zero; one of 8 bits
unfoldable pub natural : List ℕ → Option ℕ
natural [] = None
natural (c ∷ w) = within 4294967295 (decimal 0 (c ∷ w))

unfoldable pub byte : List ℕ → Option ℕ
byte w = within 255 (natural w)

-- a number of 32 bits, with a minus where it is below zero
abbrev pub above : Option ℕ → Option ℤ
above None = None
above (Some m) = cond (leb m 2147483647) (Some (pos m)) None

abbrev pub below : Option ℕ → Option ℤ
below None = None
below (Some m) = cond (leb m 2147483648) (Some (pos 0 -ℤ pos m)) None

unfoldable pub whole : List ℕ → Option ℤ
whole [] = None
whole (c ∷ w) = cond (eqb c 45) (below (natural w)) (above (natural (c ∷ w)))

-- ---- what is read from a place on: the first word, and the place where it ends
abbrev pub first_word : List ℕ → ℕ → List ℕ
first_word text at = word_at text (word_start text at)

abbrev pub after : List ℕ → ℕ → ℕ
after text at = word_end text (word_start text at)

-- the text stays, and goes on at a place
pub record Moved (old new : Words) (at : ℕ) : Type 0 where
  pub same_text : new.text ≡ old.text
  pub place : new.at ≡ at

-- ---- a list: where its k-th word is looked for, that word, and whether n of them all tell numbers
unfoldable pub place : List ℕ → ℕ → ℕ → ℕ
place text at zero = at
place text at (suc k) = after text (place text at k)

abbrev pub word_in : List ℕ → ℕ → ℕ → List ℕ
word_in text at k = first_word text (place text at k)

module _ {A : Type 0} (tell : List ℕ → Option A) where
  abbrev pub is_number : Option A → Bool
  is_number None = false
  is_number (Some z) = true

  abbrev pub all_numbers : List ℕ → ℕ → ℕ → Bool
  all_numbers text at zero = true
  all_numbers text at (suc k) = all_numbers text at k && is_number (tell (word_in text at k))

  abbrev pub all_tell : List ℕ → ℕ → ℕ → Option (Unit {0})
  all_tell text at n = cond (all_numbers text at n) (Some tt) None

  -- 0 where the word is no number
  abbrev pub number_in : A → List ℕ → ℕ → ℕ → A
  number_in nought text at k = unwrap_or (tell (word_in text at k)) nought

abbrev pub byte_in : List ℕ → ℕ → ℕ → ℕ
byte_in = number_in byte 0

abbrev pub whole_in : List ℕ → ℕ → ℕ → ℤ
whole_in = number_in whole (pos 0)
