-- The binary digits of a number, lowest first: `bit m k` is digit k of m. What becomes of them where a digit is put
-- below the others, under `&`, `|` and `>>`, and where the lowest 1 is found or taken away. All goes by halves: digit
-- k + 1 of m is digit k of m / 2.
use Rattle.std.specs.Prelude.{◌≡◌, refl, ℕ, zero, suc, ◌+◌, ◌*◌, ◌-◌, ◌/◌, ◌%◌, ◌^◌, ◌≤◌, ◌<◌, min, max}
use Rattle.std.proofs.Common.{sym, ap, ◌∙◌, pow-suc, arith, shr-shr, pow_mono, pow_pos}
use Rattle.std.proofs.Math.Logic.{by_cases}
use Rattle.std.proofs.Math.Decide.{dec_lt}
use Rattle.std.specs.Int.Bits.{bit_and, bit_or, bit_xor, differ, and_step, or_step, xor_step}
use Rattle.std.specs.Int.Count.{count_trailing_zeros, under}

abbrev pub bit : ℕ → ℕ → ℕ
bit m zero = m % 2
bit m (suc k) = bit (m / 2) k

pub bit_small : (m k : ℕ) → bit m k < 2
bit_small m zero = omega arith
bit_small m (suc k) = bit_small (m / 2) k

pub bit_nought : (k : ℕ) → bit 0 k ≡ 0
bit_nought zero = refl
bit_nought (suc k) = bit_nought k

-- ---- one digit more, below the others
module _ (m b : ℕ) (small : b < 2) where
  pub push_low : bit (m * 2 + b) 0 ≡ b
  push_low = omega arith

  pub push_high : (k : ℕ) → bit (m * 2 + b) (suc k) ≡ bit m k
  push_high k = let e : (m * 2 + b) / 2 ≡ m = omega arith in ap (λ x. bit x k) e

  pub push_fits : (t : ℕ) → m < 2 ^ t → m * 2 + b < 2 ^ suc t
  push_fits t l = omega (arith, pow-suc 2 t)

-- ---- `&`, `|` and `>>`
pub bit-and : (a b k : ℕ) → bit (bit_and a b) k ≡ min (bit a k) (bit b k)
bit-and a b zero = omega (arith, and_step a b)
bit-and a b (suc k) =
    let e : bit_and a b / 2 ≡ bit_and (a / 2) (b / 2) = omega (arith, and_step a b) in
    ap (λ x. bit x k) e ∙ bit-and (a / 2) (b / 2) k

pub bit-or : (a b k : ℕ) → bit (bit_or a b) k ≡ max (bit a k) (bit b k)
bit-or a b zero = omega (arith, or_step a b)
bit-or a b (suc k) =
    let e : bit_or a b / 2 ≡ bit_or (a / 2) (b / 2) = omega (arith, or_step a b) in
    ap (λ x. bit x k) e ∙ bit-or (a / 2) (b / 2) k

differs : (x y : ℕ) → x < 2 → y < 2 → differ x y ≡ (x + y) % 2
differs zero zero h l = refl
differs zero (suc zero) h l = refl
differs (suc zero) zero h l = refl
differs (suc zero) (suc zero) h l = refl
differs zero (suc (suc y)) h l = absurd (omega arith)
differs (suc zero) (suc (suc y)) h l = absurd (omega arith)
differs (suc (suc x)) y h l = absurd (omega arith)

pub bit-xor : (a b k : ℕ) → bit (bit_xor a b) k ≡ (bit a k + bit b k) % 2
bit-xor a b zero = omega (arith, xor_step a b, differs (a % 2) (b % 2) (omega arith) (omega arith))
bit-xor a b (suc k) =
    let e : bit_xor a b / 2 ≡ bit_xor (a / 2) (b / 2) =
    omega (arith, xor_step a b, differs (a % 2) (b % 2) (omega arith) (omega arith)) in
    ap (λ x. bit x k) e ∙ bit-xor (a / 2) (b / 2) k

-- one mark
pub bit_one : (i : ℕ) → bit (2 ^ i) i ≡ 1
bit_one zero = refl
bit_one (suc i) = let e : 2 ^ suc i / 2 ≡ 2 ^ i = omega (arith, pow-suc 2 i) in ap (λ x. bit x i) e ∙ bit_one i

pub bit_only : (i k : ℕ) → ¬ (k ≡ i) → bit (2 ^ i) k ≡ 0
bit_only zero zero n = absurd (n refl)
bit_only zero (suc k) n = bit_nought k
bit_only (suc i) zero n = omega (arith, pow-suc 2 i)
bit_only (suc i) (suc k) n =
    let e : 2 ^ suc i / 2 ≡ 2 ^ i = omega (arith, pow-suc 2 i) in
    ap (λ x. bit x k) e ∙ bit_only i k (λ z. n (ap suc z))

-- as a word has it
pub shifted_one : (k : ℕ) → k < 64 → 1 * 2 ^ k % 2 ^ 64 ≡ 2 ^ k
shifted_one k h = omega (arith, pow-suc 2 k, pow_mono {i = suc k} {j = 64} h)

pub bit_shifted : (m k : ℕ) → m / 2 ^ k % 2 ≡ bit m k
bit_shifted m zero = omega arith
bit_shifted m (suc k) =
    let e : suc k ≡ 1 + k = omega arith in
    ap (λ x. m / 2 ^ x % 2) e ∙ ap (λ x. x % 2) (sym (shr-shr m 1 k)) ∙ bit_shifted (m / 2) k

pub bit_from : (m i k : ℕ) → bit (m / 2 ^ i) k ≡ bit m (i + k)
bit_from m i k = sym (bit_shifted (m / 2 ^ i) k) ∙ ap (λ x. x % 2) (shr-shr m i k) ∙ bit_shifted m (i + k)

pub shifted_below : (m i : ℕ) → m / 2 ^ i ≤ m
shifted_below m zero = omega arith
shifted_below m (suc i) =
    let e : suc i ≡ 1 + i = omega arith in
    let z = ap (λ x. m / 2 ^ x) e ∙ sym (shr-shr m 1 i) in
    omega (arith, z, shifted_below (m / 2) i)

-- ---- the highest digit
pub bit_above : (m k : ℕ) → m < 2 ^ k → bit m k ≡ 0
bit_above m zero h = omega arith
bit_above m (suc k) h = bit_above (m / 2) k (omega (arith, pow-suc 2 k))

pub bit_highest : (m k : ℕ) → 2 ^ k ≤ m → m < 2 ^ suc k → bit m k ≡ 1
bit_highest m zero h l = omega arith
bit_highest m (suc k) h l =
    bit_highest (m / 2) k (omega (arith, pow-suc 2 k)) (omega (arith, pow-suc 2 k, pow-suc 2 (suc k)))

-- taken away, the digits below it stay
pub bit_lower : (m t k : ℕ) → 2 ^ t ≤ m → k < t → bit (m - 2 ^ t) k ≡ bit m k
bit_lower m zero k h l = absurd (omega arith)
bit_lower m (suc t) zero h l = omega (arith, pow-suc 2 t)
bit_lower m (suc t) (suc k) h l =
    let e : (m - 2 ^ suc t) / 2 ≡ m / 2 - 2 ^ t = omega (arith, pow-suc 2 t) in
    ap (λ x. bit x k) e ∙ bit_lower (m / 2) t k (omega (arith, pow-suc 2 t)) (omega arith)

-- ---- a number of t digits that are all 1
pub bit_full : (t k : ℕ) → k < t → bit (2 ^ t - 1) k ≡ 1
bit_full zero k h = absurd (omega arith)
bit_full (suc t) zero h = omega (arith, pow-suc 2 t, pow_pos t)
bit_full (suc t) (suc k) h =
    let e : (2 ^ suc t - 1) / 2 ≡ 2 ^ t - 1 = omega (arith, pow-suc 2 t, pow_pos t) in
    ap (λ x. bit x k) e ∙ bit_full t k (omega arith)

-- ---- the lowest 1 of a number of w digits
pub lowest_is : (w m : ℕ) → m < 2 ^ w → 0 < m → bit m (count_trailing_zeros w m) ≡ 1
unfolding count_trailing_zeros
lowest_is zero m l h = absurd (omega arith)
lowest_is (suc w) m l h = go (m % 2) refl (lowest_is w (m / 2) (omega (arith, pow-suc 2 w)))
  where
    go : (r : ℕ) → m % 2 ≡ r → (0 < m / 2 → bit (m / 2) (count_trailing_zeros w (m / 2)) ≡ 1) →
        bit m (under r (count_trailing_zeros w (m / 2))) ≡ 1
    go zero e f = f (omega arith)
    go (suc r) e f = omega arith

pub lowest_below : (w m : ℕ) → m < 2 ^ w → 0 < m → count_trailing_zeros w m < w
unfolding count_trailing_zeros
lowest_below zero m l h = absurd (omega arith)
lowest_below (suc w) m l h = go (m % 2) refl (lowest_below w (m / 2) (omega (arith, pow-suc 2 w)))
  where
    go : (r : ℕ) → m % 2 ≡ r → (0 < m / 2 → count_trailing_zeros w (m / 2) < w) →
        under r (count_trailing_zeros w (m / 2)) < suc w
    go zero e f = let t = f (omega arith) in omega (arith, t)
    go (suc r) e f = omega arith

lowest_first : (w m k : ℕ) → k < count_trailing_zeros w m → bit m k ≡ 0
unfolding count_trailing_zeros
lowest_first zero m k h = absurd (omega arith)
lowest_first (suc w) m k h = go (m % 2) refl k h (lowest_first w (m / 2))
  where
    go : (r : ℕ) → m % 2 ≡ r → (k : ℕ) → k < under r (count_trailing_zeros w (m / 2)) →
        ((k : ℕ) → k < count_trailing_zeros w (m / 2) → bit (m / 2) k ≡ 0) → bit m k ≡ 0
    go zero e zero h f = e
    go zero e (suc k) h f = f k (omega arith)
    go (suc r) e k h f = absurd (omega arith)

-- ---- m & (m - 1) is m without its lowest 1: m - 1 has the digits of m above that
less_above : (w m k : ℕ) → m < 2 ^ w → 0 < m → count_trailing_zeros w m < k → bit (m - 1) k ≡ bit m k
unfolding count_trailing_zeros
less_above zero m k l h t = absurd (omega arith)
less_above (suc w) m k l h t = go (m % 2) refl k t (λ j. less_above w (m / 2) j (omega (arith, pow-suc 2 w)))
  where
    go : (r : ℕ) → m % 2 ≡ r → (k : ℕ) → under r (count_trailing_zeros w (m / 2)) < k →
        ((j : ℕ) → 0 < m / 2 → count_trailing_zeros w (m / 2) < j → bit (m / 2 - 1) j ≡ bit (m / 2) j) →
        bit (m - 1) k ≡ bit m k
    go r e zero t f = absurd (omega arith)
    go zero e (suc k) t f =
        let z : (m - 1) / 2 ≡ m / 2 - 1 = omega arith in ap (λ x. bit x k) z ∙ f k (omega arith) (omega arith)
    go (suc r) e (suc k) t f = let z : (m - 1) / 2 ≡ m / 2 = omega arith in ap (λ x. bit x k) z

pub others_stay : (w m k : ℕ) → m < 2 ^ w → 0 < m → ¬ (k ≡ count_trailing_zeros w m) →
    bit (bit_and m (m - 1)) k ≡ bit m k
others_stay w m k l h n =
    by_cases (dec_lt k (count_trailing_zeros w m))
    (λ b. omega (arith, bit-and m (m - 1) k, lowest_first w m k b))
    (λ b. omega (arith, bit-and m (m - 1) k, less_above w m k l h (omega arith)))
