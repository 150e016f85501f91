-- A mask of n digits tells of a statement about the numbers below n: digit k is 1, a mark, where it holds of k, and 0
-- where not. A mask is made from the last number down, one digit put below the others (`Made`), and read one mark
-- after the other (`Scan`).
use Rattle.std.specs.Prelude.{◌≡◌, ℕ, zero, suc, ◌+◌, ◌*◌, ◌-◌, ◌^◌, ◌≤◌, ◌<◌}
use Rattle.std.proofs.Common.{sym, ap, ◌∙◌, subst, add-one, arith, pow_mono}
use Rattle.std.proofs.Math.Logic.{by_cases}
use Rattle.std.proofs.Math.Decide.{ℕ_discrete}
use Rattle.std.specs.Int.Bits.{bit_and}
use Rattle.std.proofs.lemmas.Nat.{and_le_r}
use Rattle.std.specs.Int.Count.{count_trailing_zeros}
use Rattle.whole.specs.Bits.{bit, bit_small, bit_nought, push_low, push_high, push_fits, bit-and}
use Rattle.whole.specs.Bits.{lowest_is, lowest_below, others_stay}

-- the digit b is 1 where P holds and 0 where not
pub record Digit (b : ℕ) (P : Type 0) : Type 0 where
  pub small : b < 2
  pub one : b ≡ 1 → P
  pub nought : b ≡ 0 → ¬ P

pub record Marks (n m : ℕ) (P : ℕ → Type 0) : Type 0 where
  pub yes : (k : ℕ) → bit m k ≡ 1 → (k < n) × P k
  pub no : (k : ℕ) → k < n → bit m k ≡ 0 → ¬ P k

pub marked : {n m : ℕ} {P : ℕ → Type 0} → Marks n m P → (k : ℕ) → k < n → P k → bit m k ≡ 1
marked {n} {m} h k l p =
    by_cases (ℕ_discrete (bit m k) 1) (λ e. e) (λ e. absurd (h.no k l (omega (arith, bit_small m k, e)) p))

pub unmarked : {n m : ℕ} {P : ℕ → Type 0} → Marks n m P → (k : ℕ) → ¬ ((k < n) × P k) → bit m k ≡ 0
unmarked {n} {m} h k off =
    by_cases (ℕ_discrete (bit m k) 1) (λ e. absurd (off (h.yes k e))) (λ e. omega (arith, bit_small m k, e))

-- ---- made: after t steps the mask has t digits, and they tell of the last t numbers
pub record Made (n t m : ℕ) (P : ℕ → Type 0) : Type 0 where
  pub fits : m < 2 ^ t
  pub marks : Marks t m (λ k. P (n - t + k))

module _ {n : ℕ} {P : ℕ → Type 0} where
  pub made_none : Made n 0 0 P
  made_none = record {
    fits = omega arith;
    marks = record { yes = λ k e. absurd (omega (arith, bit_nought k)); no = λ k l. absurd (omega arith) };
  }

  module _ {t m b : ℕ} (l : t < n) (s : Made n t m P) where
    pub made_more : Digit b (P (n - (t + 1))) → Made n (t + 1) (m * 2 + b) P
    made_more d = record {
      fits = let e = add-one t in rw e (push_fits m b d.small t s.fits);
      marks = record { yes = yes; no = no };
    }
      where
        f : ℕ
        f = n - (t + 1)

        first : f + 0 ≡ f
        first = omega arith

        later : (k : ℕ) → n - t + k ≡ f + suc k
        later k = omega arith

        yes : (k : ℕ) → bit (m * 2 + b) k ≡ 1 → (k < t + 1) × P (f + k)
        yes zero e = (omega arith, subst P (sym first) (d.one (sym (push_low m b d.small) ∙ e)))
        yes (suc k) e =
            let y = s.marks.yes k (sym (push_high m b d.small k) ∙ e) in
            (omega (arith, y.0), subst P (later k) y.1)

        no : (k : ℕ) → k < t + 1 → bit (m * 2 + b) k ≡ 0 → ¬ P (f + k)
        no zero h e p = d.nought (sym (push_low m b d.small) ∙ e) (subst P first p)
        no (suc k) h e p =
            s.marks.no k (omega arith) (sym (push_high m b d.small k) ∙ e) (subst P (sym (later k)) p)

    -- a word has room for the digit
    pub made_room : n ≤ 64 → b < 2 → m * 2 + b < 2 ^ 64
    made_room few h = omega (arith, push_fits m b h t s.fits, pow_mono {i = suc t} {j = 64} (omega arith))

  pub made_all : {m : ℕ} → Made n n m P → Marks n m P
  made_all {m} s = record {
    yes = λ k e. let y = s.marks.yes k e in (y.0, subst P (whole k) y.1);
    no = λ k l e p. s.marks.no k l e (subst P (sym (whole k)) p);
  }
    where
      whole : (k : ℕ) → n - n + k ≡ k
      whole k = omega arith

-- ---- read: the marks of `rest` are marks of m, and every other mark of m is passed, and is one of Q
pub record Scan (m rest : ℕ) (Q : ℕ → Type 0) : Type 0 where
  pub ahead : (k : ℕ) → bit rest k ≡ 1 → bit m k ≡ 1
  pub passed : (k : ℕ) → bit m k ≡ 1 → bit rest k ≡ 0 → Q k
  pub fits : rest < 2 ^ 64

-- the next mark, and what is left after it
abbrev pub mark : ℕ → ℕ
mark rest = count_trailing_zeros 64 rest

abbrev pub others : ℕ → ℕ
others rest = bit_and rest (rest - 1)

module _ {m : ℕ} {Q : ℕ → Type 0} where
  pub scan_start : m < 2 ^ 64 → Scan m m Q
  scan_start h = record { ahead = λ k e. e; passed = λ k e z. absurd (omega (arith, e, z)); fits = h }

  module _ {rest : ℕ} (s : Scan m rest Q) where
    pub scan_end : rest ≡ 0 → (k : ℕ) → bit m k ≡ 1 → Q k
    scan_end z k e = s.passed k e (ap (λ x. bit x k) z ∙ bit_nought k)

    module _ (n : ¬ (rest ≡ 0)) where
      pub mark_below : mark rest < 64
      mark_below = lowest_below 64 rest s.fits (omega arith)

      pub scan_mark : bit m (mark rest) ≡ 1
      scan_mark = s.ahead (mark rest) (lowest_is 64 rest s.fits (omega arith))

      pub scan_less : others rest < rest
      scan_less = omega (arith, and_le_r rest (rest - 1))

      pub scan_more : Q (mark rest) → Scan m (others rest) Q
      scan_more q = record { ahead = ahead; passed = passed; fits = omega (arith, scan_less, s.fits) }
        where
          ahead : (k : ℕ) → bit (others rest) k ≡ 1 → bit m k ≡ 1
          ahead k e =
              s.ahead k (omega (arith, e, bit-and rest (rest - 1) k, bit_small rest k, bit_small (rest - 1) k))

          passed : (k : ℕ) → bit m k ≡ 1 → bit (others rest) k ≡ 0 → Q k
          passed k e z =
              by_cases (ℕ_discrete k (mark rest)) (λ is. subst Q (sym is) q)
              (λ not. s.passed k e (sym (others_stay 64 rest k s.fits (omega arith) not) ∙ z))
