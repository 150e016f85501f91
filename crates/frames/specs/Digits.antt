-- A few digits in a row and their value: the digits of the first two bytes, or of a number, as far as they are read.
use Rattle.std.specs.Prelude.{◌≡◌, ℕ, ◌+◌, ◌*◌, ◌<◌, List, [], ◌∷◌, ◌++◌, length, refl}
use Rattle.std.proofs.Math.Option.{some}
use Rattle.std.proofs.Common.{arith}
use Rattle.frames.specs.Frames.{bytes, number, two's_complement}
use Rattle.frames.specs.Reader.{worth}
use Rattle.frames.specs.Bytes.{digit_worth}

abbrev pub Digits : List ℕ → Type 0
Digits [] = Unit {0}
Digits (c ∷ cs) = (worth c < 16) × Digits cs

-- the value of the digits after some that had the value v
abbrev pub value_on : ℕ → List ℕ → ℕ
value_on v [] = v
value_on v (c ∷ cs) = value_on (v * 16 + worth c) cs

pub digits_more : (cs : List ℕ) (c : ℕ) → Digits cs → worth c < 16 → Digits (cs ++ c ∷ [])
digits_more [] c d h = (h, tt)
digits_more (x ∷ cs) c d h = (d.0, digits_more cs c d.1 h)

pub value_more : (v : ℕ) (cs : List ℕ) (c : ℕ) → value_on v (cs ++ c ∷ []) ≡ value_on v cs * 16 + worth c
value_more v [] c = refl
value_more v (x ∷ cs) c = value_more (v * 16 + worth x) cs c

-- fewer than six digits leave room for one more
pub value_small : (cs : List ℕ) → length cs < 6 → Digits cs → value_on 0 cs < 1048576
value_small [] h d = omega arith
value_small (a ∷ []) h d = omega arith
value_small (a ∷ b ∷ []) h d = omega arith
value_small (a ∷ b ∷ c ∷ []) h d = omega arith
value_small (a ∷ b ∷ c ∷ e ∷ []) h d = omega arith
value_small (a ∷ b ∷ c ∷ e ∷ f ∷ []) h d = omega arith
value_small (a ∷ b ∷ c ∷ e ∷ f ∷ g ∷ cs) h d = absurd (omega arith)

-- four digits are two bytes
pub record Head (cs : List ℕ) : Type 0 where
  pub tag : ℕ
  pub count : ℕ
  pub read : bytes cs ≡ some (tag ∷ count ∷ [])
  pub byte : count < 256
  pub valued : value_on 0 cs ≡ tag * 256 + count

pub head : (cs : List ℕ) → length cs ≡ 4 → Digits cs → Head cs
head [] h d = absurd (omega arith)
head (a ∷ []) h d = absurd (omega arith)
head (a ∷ b ∷ []) h d = absurd (omega arith)
head (a ∷ b ∷ c ∷ []) h d = absurd (omega arith)
head (a ∷ b ∷ c ∷ e ∷ []) h d =
    record {
      tag = 16 * worth a + worth b;
      count = 16 * worth c + worth e;
      read = rw
          (digit_worth a d.0, digit_worth b d.1.0, digit_worth c d.1.1.0, digit_worth e d.1.1.1.0);
      byte = omega arith;
      valued = omega arith;
    }
head (a ∷ b ∷ c ∷ e ∷ f ∷ cs) h d = absurd (omega arith)

-- six digits are three bytes, and a number
pub record Number (cs : List ℕ) : Type 0 where
  pub x : ℕ
  pub y : ℕ
  pub z : ℕ
  pub read : bytes cs ≡ some (x ∷ y ∷ z ∷ [])
  pub valued : number x y z ≡ two's_complement (value_on 0 cs)

same_number : (x y z v : ℕ) → 65536 * x + 256 * y + z ≡ v → number x y z ≡ two's_complement v
same_number x y z v e = rw e

pub six : (cs : List ℕ) → length cs ≡ 6 → Digits cs → Number cs
six [] h d = absurd (omega arith)
six (a ∷ []) h d = absurd (omega arith)
six (a ∷ b ∷ []) h d = absurd (omega arith)
six (a ∷ b ∷ c ∷ []) h d = absurd (omega arith)
six (a ∷ b ∷ c ∷ e ∷ []) h d = absurd (omega arith)
six (a ∷ b ∷ c ∷ e ∷ f ∷ []) h d = absurd (omega arith)
six (a ∷ b ∷ c ∷ e ∷ f ∷ g ∷ []) h d =
    record {
      x = 16 * worth a + worth b;
      y = 16 * worth c + worth e;
      z = 16 * worth f + worth g;
      read =
          rw (
            digit_worth a d.0,
            digit_worth b d.1.0,
            digit_worth c d.1.1.0,
            digit_worth e d.1.1.1.0,
            digit_worth f d.1.1.1.1.0,
            digit_worth g d.1.1.1.1.1.0,
          );
      valued = same_number (16 * worth a + worth b) (16 * worth c + worth e) (16 * worth f + worth g)
          (value_on 0 (a ∷ b ∷ c ∷ e ∷ f ∷ g ∷ [])) (omega arith);
    }
six (a ∷ b ∷ c ∷ e ∷ f ∷ g ∷ i ∷ cs) h d = absurd (omega arith)
