-- Where the blanks and the word end that a text begins with; what begins at a place lies in the text.
use Rattle.std.specs.Prelude.{◌≡◌, refl, Bool, true, false, not, cond, List, [], ◌∷◌, ℕ, suc, ◌+◌, ◌-◌, ◌<◌, ◌≤◌, leb, length, drop, take, unwrap_or, Option, Some}
use Rattle.std.specs.List.{position_from}
use Rattle.std.proofs.Common.{ap, ◌∙◌, arith, length-drop}
use Rattle.recorded.specs.Decimals.{blanks, word, word_at, word_start, word_end}

-- ---- the first place that has no blank, and the first that has one
blank_first : (b : Bool) (k n m : ℕ) (rest : Option ℕ) → unwrap_or rest (k + 1 + n) ≡ k + 1 + m →
    unwrap_or (cond (not b) (Some k) rest) (k + suc n) ≡ k + cond b (suc m) 0
blank_first true k n m rest e =
    let size : k + suc n ≡ k + 1 + n = omega arith in
    let more : k + 1 + m ≡ k + suc m = omega arith in
    ap (unwrap_or rest) size ∙ e ∙ more
blank_first false k n m rest e = let here : k ≡ k + 0 = omega arith in here

blanks_end : (k : ℕ) (text : List ℕ) →
    unwrap_or (position_from (λ c. not (leb c 32)) k text) (k + length text) ≡ k + blanks text
blanks_end k [] = refl
blanks_end k (c ∷ text) = blank_first (leb c 32) k _ _ _ (blanks_end (k + 1) text)

pub first_other : (text : List ℕ) →
    unwrap_or (position_from (λ c. not (leb c 32)) 0 text) (length text) ≡ blanks text
first_other text =
    let size : length text ≡ 0 + length text = omega arith in
    let here : 0 + blanks text ≡ blanks text = omega arith in
    ap (unwrap_or (position_from (λ c. not (leb c 32)) 0 text)) size ∙ blanks_end 0 text ∙ here

other_first : (b : Bool) (c k n : ℕ) (w : List ℕ) (rest : Option ℕ) →
    unwrap_or rest (k + 1 + n) ≡ k + 1 + length w →
    unwrap_or (cond b (Some k) rest) (k + suc n) ≡ k + length (cond b [] (c ∷ w))
other_first true c k n w rest e = let here : k ≡ k + 0 = omega arith in here
other_first false c k n w rest e =
    let size : k + suc n ≡ k + 1 + n = omega arith in
    let more : k + 1 + length w ≡ k + suc (length w) = omega arith in
    ap (unwrap_or rest) size ∙ e ∙ more

word_ends : (k : ℕ) (text : List ℕ) →
    unwrap_or (position_from (λ c. leb c 32) k text) (k + length text) ≡ k + length (word text)
word_ends k [] = refl
word_ends k (c ∷ text) = other_first (leb c 32) c k _ _ _ (word_ends (k + 1) text)

pub first_blank : (text : List ℕ) →
    unwrap_or (position_from (λ c. leb c 32) 0 text) (length text) ≡ length (word text)
first_blank text =
    let size : length text ≡ 0 + length text = omega arith in
    let here : 0 + length (word text) ≡ length (word text) = omega arith in
    ap (unwrap_or (position_from (λ c. leb c 32) 0 text)) size ∙ word_ends 0 text ∙ here

-- ---- they lie in the text
blank_more : (b : Bool) (m n : ℕ) → m ≤ n → cond b (suc m) 0 ≤ suc n
blank_more true m n h = omega arith
blank_more false m n h = omega arith

pub blanks_within : (text : List ℕ) → blanks text ≤ length text
blanks_within [] = omega arith
blanks_within (c ∷ text) = blank_more (leb c 32) _ _ (blanks_within text)

word_more : (b : Bool) (c n : ℕ) (w : List ℕ) → length w ≤ n → length (cond b [] (c ∷ w)) ≤ suc n
word_more true c n w h = omega arith
word_more false c n w h = omega arith

pub word_within : (text : List ℕ) → length (word text) ≤ length text
word_within [] = omega arith
word_within (c ∷ text) = word_more (leb c 32) c _ _ (word_within text)

-- ---- the word is the front of the text
front_more : (b : Bool) (c : ℕ) (w text : List ℕ) → take (length w) text ≡ w →
    take (length (cond b [] (c ∷ w))) (c ∷ text) ≡ cond b [] (c ∷ w)
front_more true c w text e = refl
front_more false c w text e = ap (λ v. c ∷ v) e

pub word_front : (text : List ℕ) → take (length (word text)) text ≡ word text
word_front [] = refl
word_front (c ∷ text) = front_more (leb c 32) c _ _ (word_front text)

-- ---- from a place on
module _ (text : List ℕ) (at : ℕ) (rest : List ℕ) (r : rest ≡ drop at text) where
  left_of : length rest ≡ length text - at
  left_of = ap length r ∙ length-drop at text

  module _ (small : length text < 18446744073709551616) (here : at < 18446744073709551616) where
    pub start_fits : (n : ℕ) → n ≡ blanks rest → at + n < 18446744073709551616
    start_fits n e = omega (arith, e, left_of, blanks_within rest)

    pub end_fits : (n : ℕ) → n ≡ length (word rest) → at + n < 18446744073709551616
    end_fits n e = omega (arith, e, left_of, word_within rest)

  pub start_is : (n : ℕ) → n ≡ blanks rest → at + n ≡ word_start text at
  unfolding word_start
  start_is n e = ap (λ (k : ℕ). at + k) (e ∙ ap blanks r)

  pub end_is : (n : ℕ) → n ≡ length (word rest) → at + n ≡ word_end text at
  unfolding word_end word_at
  end_is n e = ap (λ (k : ℕ). at + k) (e ∙ ap (λ t. length (word t)) r)

  pub word_is : (n : ℕ) → n ≡ length (word rest) → take n rest ≡ word_at text at
  unfolding word_at
  word_is n e = ap (λ (k : ℕ). take k rest) e ∙ word_front rest ∙ ap word r

  pub word_inside : (n : ℕ) → n ≡ length (word rest) → n ≤ length rest
  word_inside n e = omega (arith, e, word_within rest)
