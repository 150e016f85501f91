-- What a word tells, as it is read.
use Rattle.std.specs.Prelude.{◌≡◌, Bool, true, false, cond, ◌&&◌, List, [], ◌∷◌, ℕ, zero, suc, ◌+◌, ◌-◌, ◌<◌, ◌≤◌, eqb, ℤ, pos, negsuc, ◌-ℤ◌, length, take, drop, get_or, Option, Some, None, SomeIff}
use Rattle.std.specs.Int.{w32}
use Rattle.std.proofs.Common.{refl, sym, ap, ◌∙◌, arith, drop-cons, eq-eqb, ne_eqb, SFits}
use Rattle.std.proofs.lemmas.Bool.{lt-leb, le-leb, lt-ltb}
use lib.Pointwise.{pointwise}
use mathlib.Core.Logic.{by_cases}
use native.Mathlib.Decide.{dec_lt}
use native.Mathlib.Numerals.{add-one}
use Rattle.recorded.specs.Decimals.{natural, whole, above, below}
use Rattle.recorded.specs.Digits.{with_digit, number, stuck, word_read}

module _ (w : List ℕ) (i m : ℕ) (h : i < length w) (read : number (Some m) (drop i w) ≡ number (Some 0) w) where
  pub one_more : (r : Option ℕ) → r ≡ with_digit (Some m) (get_or w i 0) →
      number r (drop (i + 1) w) ≡ number (Some 0) w
  one_more r e = rw (e, add-one) (rw (drop-cons w i 0 h) at read)

  pub no_digit : None ≡ with_digit (Some m) (get_or w i 0) → None ≡ number (Some 0) w
  no_digit e = sym (stuck (drop (i + 1) w)) ∙ one_more None e

-- a word that is read whole, from 0 to its length
read_whole : (w : List ℕ) → cond (eqb (length w) 0) None (number (Some 0) w) ≡ natural w
read_whole w =
    ap (λ (r : Option ℕ × ℕ). r.0) (word_read w (number (Some 0) w) 0 (length w) refl (omega arith))

pub natural_is : (w : List ℕ) → 0 < length w → number (Some 0) w ≡ natural w
natural_is w h = let e = read_whole w in rw (ne_eqb (length w) 0 (λ q. omega arith)) at e

pub no_natural : (w : List ℕ) → length w ≡ 0 → None ≡ natural w
no_natural w e = let r = read_whole w in rw (eq-eqb (length w) 0 e) at r

-- ---- a minus in front, and none
minus_first : (b : Bool) (n : Option ℕ) (other : Option ℤ) → (b && true) ≡ true → below n ≡ cond b (below n) other
minus_first true n other e = refl
minus_first false n other e = absurd (cc)

pub minus_is : (w digits : List ℕ) (n : Option ℕ) → pointwise eqb (take 1 w) (45 ∷ []) ≡ true → digits ≡ drop 1 w →
    n ≡ natural digits → below n ≡ whole w
unfolding whole
minus_is [] digits n e d q = absurd (cc)
minus_is (c ∷ w) digits n e d q =
    let number : n ≡ natural w = q ∙ ap natural d in
    ap below number ∙ minus_first (eqb c 45) (natural w) (above (natural (c ∷ w))) e

other_first : (b : Bool) (n : Option ℕ) (other : Option ℤ) → (b && true) ≡ false → above n ≡ cond b other (above n)
other_first true n other e = absurd (cc)
other_first false n other e = refl

pub no_minus_is : (w : List ℕ) (n : Option ℕ) → pointwise eqb (take 1 w) (45 ∷ []) ≡ false → n ≡ natural w →
    above n ≡ whole w
unfolding whole natural
no_minus_is [] n e q = ap above q
no_minus_is (c ∷ w) n e q = ap above q ∙ other_first (eqb c 45) (natural (c ∷ w)) (below (natural w)) e

-- ---- how far below zero the numbers of 32 bits reach
below_zero : (m : ℕ) → pos 0 -ℤ pos (suc m) ≡ negsuc m
below_zero m = let size : suc m - 1 ≡ m = omega arith in rw (lt-ltb 0 (suc m) (omega arith), size)

fits_32 : (m : ℕ) → m ≤ 2147483648 → SFits w32 (pos 0 -ℤ pos m)
fits_32 zero h = record { sfits = omega arith }
fits_32 (suc m) h = rw (below_zero m) (record { sfits = omega arith })

fits_no_more : (m : ℕ) → SFits w32 (pos 0 -ℤ pos m) → m ≤ 2147483648
fits_no_more zero h = omega arith
fits_no_more (suc m) h = let k = rw (below_zero m) at h in omega (arith, k.sfits)

pub below_is : (m : ℕ) (r : Option ℤ) → SomeIff r (SFits w32 (pos 0 -ℤ pos m)) (pos 0 -ℤ pos m) → r ≡ below (Some m)
below_is m None h =
    by_cases (dec_lt 2147483648 m) (λ l. rw (lt-leb m 2147483648 l)) (λ l. absurd (h (fits_32 m (omega arith))))
below_is m (Some z) h = rw (le-leb m 2147483648 (fits_no_more m h.0)) (ap Some h.1)
