-- Laws of the machine's digits and numbers.
use Rattle.std.proofs.Common.{◌≡◌, ℕ, suc, ◌+◌, ◌-◌, ◌%◌, ◌<◌, ◌≤◌, pos, negsuc, ◌-ℤ◌, arith, to_z-of_z, w32, SFits, to_z, of_z, le-ltb, lt-ltb, le-leb}
use mathlib.Core.Bool.{and-false}
use borrow.Author.Tests.{lt-leb}
use Rattle.frames.specs.Frames.{two's_complement}
use Rattle.std.proofs.Math.Decide.{dec_lt}
use Rattle.std.specs.Prelude.{Some, None}
use Rattle.std.proofs.Common.{◌∙◌}
use Rattle.frames.specs.Reader.{worth, digit_value}
use Rattle.frames.specs.Bytes.{apart, digit_worth, digit_none}

-- ---- what a character is worth: d and e are its distances from 0 and from A, round 256
found_digit : (c : ℕ) {d : ℕ} → d ≡ worth c → d < 16 → Some d ≡ digit_value c
unfolding digit_value
found_digit c {d} e h = let k : worth c < 16 = omega arith in rw (e, digit_worth c k)

module _ (c d : ℕ) (from_zero : (d + 48) % 256 ≡ c) where
  pub decimal : d < 10 → Some d ≡ digit_value c
  unfolding worth
  decimal h = found_digit c is (omega arith)
    where
      is : d ≡ worth c
      is =
          let low : 48 ≤ c = omega arith in
          let high : c ≤ 57 = omega arith in
          simp (le-leb _ _ low, le-leb _ _ high) (omega arith)

  module _ (e : ℕ) (from_a : (e + 65) % 256 ≡ c) (no_decimal : 10 ≤ d) where
    pub letter : e < 6 → Some (e + 10) ≡ digit_value c
    unfolding worth
    letter h = found_digit c is (omega arith)
      where
        is : e + 10 ≡ worth c
        is =
            let low : 65 ≤ c = omega arith in
            let past : 57 < c = omega arith in
            let high : c ≤ 70 = omega arith in
            simp (lt-leb _ _ past, and-false, le-leb _ _ low, le-leb _ _ high) (omega arith)

    pub no_digit : d < 256 → e < 256 → 6 ≤ e → None ≡ digit_value c
    unfolding digit_value
    no_digit hd he no_letter = rw (apart 48 c 57 (omega arith), apart 65 c 70 (omega arith))

-- and what the reader learns of it
pub read_digit : (c : ℕ) {d v : ℕ} → v ≡ d → Some d ≡ digit_value c → (v ≡ worth c) × (v < 16)
unfolding digit_value
read_digit c {d} {v} same e = go (dec_lt (worth c) 16)
  where
    go : Dec (worth c < 16) → (v ≡ worth c) × (v < 16)
    go (yes h) =
        let k : Some d ≡ Some (worth c) = e ∙ rw (digit_worth c h) in
        let m : d ≡ worth c = cc in
        (same ∙ m, omega arith)
    go (no h) =
        let past : 16 ≤ worth c = omega arith in
        let k : Some d ≡ None = e ∙ rw (digit_none c past) in
        cc

pub read_other : (c : ℕ) → None ≡ digit_value c → 16 ≤ worth c
unfolding digit_value
read_other c e = go (dec_lt (worth c) 16)
  where
    go : Dec (worth c < 16) → 16 ≤ worth c
    go (yes h) =
        let k : None ≡ Some (worth c) = e ∙ rw (digit_worth c h) in
        cc
    go (no h) = omega arith

-- ---- a number of three bytes as the machine has it
module _ (v : ℕ) (h : v < 16777216) where
  pub as_signed : to_z w32 v ≡ pos v
  as_signed = let k : v < 2147483648 = omega arith in simp (lt-ltb _ _ k)

  pub negative : pos v -ℤ pos 16777216 ≡ negsuc (16777216 - suc v)
  negative = simp (lt-ltb _ _ h)

  pub less_fits : SFits w32 (to_z w32 v -ℤ pos 16777216)
  less_fits = rw as_signed (rw negative (record { sfits = omega arith }))

  pub positive : v < 8388608 → to_z w32 v ≡ two's_complement v
  positive k = simp (lt-ltb v 8388608 k) as_signed

  pub wrapped : 8388608 ≤ v → to_z w32 (of_z w32 (to_z w32 v -ℤ pos 16777216)) ≡ two's_complement v
  wrapped k = rw (to_z-of_z less_fits) (rw (as_signed, le-ltb v 8388608 k))
