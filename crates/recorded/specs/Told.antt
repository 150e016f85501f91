-- What stands in front of a buffer after a list was read is the list that the text tells.
use Rattle.std.specs.Prelude.{◌≡◌, refl, Bool, true, false, cond, List, ℕ, zero, suc, ◌<◌, ◌≤◌, leb, ℤ, pos, length, get_or, take, Ok, Err}
use Rattle.std.proofs.Common.{sym, ap, ◌∙◌, arith, lt-ltb, length-take-le, get_or-take, ext_get_or}
use Rattle.recorded.specs.Decimals.{whole_in, after, place}
use Rattle.recorded.specs.Lent.{Holds}
use Rattle.recorded.specs.Counted.{up_to, first_number, counted_wholes, how_many, list_end, list_in, told}

pub told_length : {A : Type 0} (item : ℕ → A) (n : ℕ) → length (told item n) ≡ n
told_length item zero = refl
told_length item (suc n) = ap suc (told_length (λ k. item (suc k)) n)

pub told_each : {A : Type 0} (nought : A) (item : ℕ → A) (n k : ℕ) → k < n → get_or (told item n) k nought ≡ item k
told_each nought item zero k h = absurd (omega arith)
told_each nought item (suc n) zero h = refl
told_each nought item (suc n) (suc k) h = told_each nought (λ j. item (suc j)) n k (omega arith)

module _ (text : List ℕ) (at : ℕ) (before after' : List ℤ)
    (h : Holds (pos 0) (list_in text at before) before after') where
  abbrev count : ℕ
  count = up_to (length before) (first_number text at)

  each : (k : ℕ) → count ≤ length before → k < count → get_or after' k (pos 0) ≡ whole_in text (after text at) k
  each k c l = h.each k (omega arith) ∙ rw (lt-ltb k count l)

  pub list_told : (n : ℕ) → n ≡ count → n ≤ length before → take n after' ≡ told (whole_in text (after text at)) n
  list_told n e c =
      let size : length (take n after') ≡ n = length-take-le n after' (omega (arith, h.size)) in
      let item = whole_in text (after text at) in
      ext_get_or (pos 0) (take n after') (told item n) (size ∙ sym (told_length item n))
      (λ k l.
      let j : k < n = omega (arith, size) in
      get_or-take n after' k (pos 0) j
      ∙ each k (omega (arith, e)) (omega (arith, e))
      ∙ sym (told_each (pos 0) item n k j))

-- the count that is told of a list is that of the numbers in front
count_of : (b all : Bool) (n : ℕ) → how_many (cond b (cond all (Ok n) (Err n)) (Err 0)) ≡ cond b n 0
count_of true true n = refl
count_of true false n = refl
count_of false all n = refl

pub counted_is : (text : List ℕ) (at most : ℕ) →
    how_many (counted_wholes text at most) ≡ up_to most (first_number text at)
counted_is text at most = count_of (leb (first_number text at) most) _ _

-- all numbers or not, the text goes on behind as many words as the first number says; behind that one alone where it
-- has no room or is none
pub list_end_is : (text : List ℕ) (at most : ℕ) →
    list_end text at most ≡ place text (after text at) (up_to most (first_number text at))
list_end_is text at most = refl
