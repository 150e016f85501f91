-- Rows of noughts: one row as it is written, and all of them.
use mathlib.Core.Path.{◌≡◌, refl, sym, ◌∙◌}
use mathlib.Core.Logic.{inl, by_cases}
use mathlib.Core.List.{List}
use Prim.Native.Nat.{ℕ, ◌+◌, ◌≤◌, ◌<◌}
use native.Mathlib.Decide.{ℕ_discrete}
use native.Mathlib.Omega.{arith}
use lib.IntN.{ℤ}
use lib.ListN.{length, get_or, set, length-set}
use lib.Seq.{get_or-set_same, get_or-set_other}
use Rattle.limits.specs.Limits.{most_corners, all_cells, place}
use Rattle.outline.specs.Drawing.{corners}
use Rattle.drawing.specs.Table.{Marked, None, RowBlank}

-- ---- one row
pub blank_none : {i : ℕ} {o : List ℕ} → RowBlank i 0 o o
blank_none = record { blank = λ q h. absurd (omega arith); kept = λ k h. refl; size = refl }

pub blank_more : {i j : ℕ} {o c : List ℕ} → i < most_corners → j < most_corners → all_cells ≤ length c →
    RowBlank i j o c → RowBlank i (j + 1) o (set c (place i j) 0)
blank_more {i} {j} {o} {c} hi hj room r = record {
  blank = λ q h. by_cases (ℕ_discrete q j) (λ e. rw e (get_or-set_same c (place i j) 0 0 (omega (arith, room))))
      (λ n. get_or-set_other c (place i j) (place i q) 0 0 (λ e. n (omega arith)) ∙ r.blank q (omega arith));
  kept = λ k h. get_or-set_other c (place i j) k 0 0 (h j (omega arith)) ∙ r.kept k (λ q l. h q (omega arith));
  size = simp length-set r.size;
}

-- ---- the rows before i
pub record Blank (n i : ℕ) (before after : List ℕ) : Type 0 where
  pub blank : (p q : ℕ) → p < i → q < n → get_or after (place p q) 0 ≡ 0
  pub kept : (k : ℕ) → ((p q : ℕ) → p < n → q < n → ¬ (k ≡ place p q)) → get_or after k 0 ≡ get_or before k 0
  pub size : length after ≡ length before

pub rows_none : {n : ℕ} {o : List ℕ} → Blank n 0 o o
rows_none = record { blank = λ p q h. absurd (omega arith); kept = λ k h. refl; size = refl }

pub rows_more : {n i : ℕ} {o c t : List ℕ} → n ≤ most_corners → i < n → Blank n i o c → RowBlank i n c t →
    Blank n (i + 1) o t
rows_more {n} {i} few hi b r = record {
  blank = λ p q hp hq. by_cases (ℕ_discrete p i) (λ e. rw e (r.blank q hq))
      (λ x. r.kept (place p q) (λ y l e. x (omega arith)) ∙ b.blank p q (omega arith) hq);
  kept = λ k h. r.kept k (λ q l. h i q hi l) ∙ b.kept k h;
  size = r.size ∙ b.size;
}

pub blank_marked : {d : List ℤ} {o c : List ℕ} → Blank (corners d) (corners d) o c → Marked d None o c
blank_marked b = record {
  codes = λ p q hp hq. inl (b.blank p q hp hq);
  done = λ p q hp hq n. absurd n;
  both_ways = λ p q hp hq. b.blank p q hp hq ∙ sym (b.blank q p hq hp);
  kept = b.kept;
  size = b.size;
}
