-- Digits one after another, as they are read: this is what the private functions of `numbers` promise. They tell what
-- the plain definition of a number tells.
use Rattle.std.specs.Prelude.{◌≡◌, refl, Bool, true, false, cond, ◌&&◌, List, [], ◌∷◌, ℕ, ◌+◌, ◌*◌, ◌-◌, ◌<◌, eqb, leb, length, Option, Some, None}
use Rattle.std.proofs.Common.{arith, eq-eqb, ne_eqb}
use Rattle.std.proofs.lemmas.Bool.{lt-leb, le-leb}
use mathlib.Core.Logic.{by_cases}
use native.Mathlib.Decide.{dec_lt}
use Rattle.recorded.specs.Decimals.{decimal, within, natural}

abbrev pub is_digit : ℕ → Bool
is_digit c = leb 48 c && leb c 57

-- a number, if there is one yet, with one digit more
abbrev pub with_digit : Option ℕ → ℕ → Option ℕ
with_digit None c = None
with_digit (Some m) c = cond (is_digit c) (within 4294967295 (Some (m * 10 + (c - 48)))) None

abbrev pub number : Option ℕ → List ℕ → Option ℕ
number m [] = m
number m (c ∷ w) = number (with_digit m c) w

-- ---- what is no number stays so
pub stuck : (w : List ℕ) → number None w ≡ None
stuck [] = refl
stuck (c ∷ w) = stuck w

-- ---- digits read one after another tell the decimal number
-- after a number that fits, and after one that is too large
module _ (m : ℕ) (w : List ℕ) (e : number (within 4294967295 (Some m)) w ≡ within 4294967295 (decimal m w)) where
  fitting_digit : (b : Bool) →
      number (cond b (within 4294967295 (Some m)) None) w ≡ within 4294967295 (cond b (decimal m w) None)
  fitting_digit true = e
  fitting_digit false = stuck w

  large_digit : (b : Bool) → 4294967295 < m → number None w ≡ within 4294967295 (cond b (decimal m w) None)
  large_digit true h = let none : leb m 4294967295 ≡ false = lt-leb m 4294967295 h in rw none at e
  large_digit false h = stuck w

same : (m : ℕ) (w : List ℕ) → number (within 4294967295 (Some m)) w ≡ within 4294967295 (decimal m w)
same m [] = refl
same m (c ∷ w) =
    let more = m * 10 + (c - 48) in
    by_cases (dec_lt 4294967295 m)
    (λ h. rw (lt-leb m 4294967295 h) (large_digit more w (same more w) (is_digit c) (omega arith)))
    (λ h. rw (le-leb m 4294967295 (omega arith)) (fitting_digit more w (same more w) (is_digit c)))

-- ---- a word that has been read
-- the word from `at` to `end`, whose digits told m, and where the text goes on; an empty one tells no number
abbrev pub ended : Option ℕ → ℕ → ℕ → Option ℕ × ℕ
ended m at end = (cond (eqb end at) None m, end)

pub digits_read : (c : ℕ) (w : List ℕ) → number (Some 0) (c ∷ w) ≡ natural (c ∷ w)
unfolding natural
digits_read c w = same 0 (c ∷ w)

-- an empty word tells no number
pub empty_word : natural [] ≡ None
unfolding natural
empty_word = refl

pub word_read : (w : List ℕ) (m : Option ℕ) (at end : ℕ) → m ≡ number (Some 0) w → end ≡ at + length w →
    ended m at end ≡ (natural w, at + length w)
word_read [] m at end e l = rw (eq-eqb end at (omega arith), l, empty_word) refl
word_read (c ∷ w) m at end e l = rw (ne_eqb end at (λ q. omega arith), e, l, digits_read c w) refl
