-- One pair: what becomes of a table when a code is written into both its cells.
use mathlib.Core.Path.{◌≡◌, sym, ap, ◌∙◌, subst}
use mathlib.Core.Logic.{◌⊎◌, inl, inr, by_cases}
use mathlib.Core.List.{List}
use Prim.Native.Nat.{ℕ, ◌≤◌, ◌<◌}
use native.Mathlib.Decide.{ℕ_discrete}
use native.Mathlib.Omega.{arith}
use lib.IntN.{ℤ}
use lib.ListN.{length, get_or, set, length-set}
use lib.Seq.{get_or-set_same, get_or-set_other}
use Rattle.limits.specs.Limits.{most_corners, all_cells, place}
use Rattle.outline.specs.Drawing.{corners}
use Rattle.drawing.specs.Table.{cell, BothWays, Code, Marked, Grows, both}
use Rattle.drawing.specs.Codes.{code_back}

abbrev pub Pair : ℕ → ℕ → ℕ → ℕ → Type 0
Pair i j p q = ((p ≡ i) × (q ≡ j)) ⊎ ((p ≡ j) × (q ≡ i))

-- ---- the cells after v is written
module _ {n i j : ℕ} (c : List ℕ) (v : ℕ) (few : n ≤ most_corners) (hi : i < n) (hj : j < n)
    (room : all_cells ≤ length c) where
  pub pair_size : length (both c i j v) ≡ length c
  pair_size = simp length-set

  there : get_or (both c i j v) (place j i) 0 ≡ v
  there = get_or-set_same (set c (place i j) v) (place j i) v 0 (simp length-set (omega arith))

  here : get_or (both c i j v) (place i j) 0 ≡ v
  here =
      by_cases (ℕ_discrete (place i j) (place j i))
      (λ e. ap (λ k. get_or (both c i j v) k 0) e ∙ there)
      (λ x. get_or-set_other (set c (place i j) v) (place j i) (place i j) v 0 x ∙
      get_or-set_same c (place i j) v 0 (omega arith))

  other : (k : ℕ) → ¬ (k ≡ place i j) → ¬ (k ≡ place j i) → get_or (both c i j v) k 0 ≡ get_or c k 0
  other k x y = get_or-set_other (set c (place i j) v) (place j i) k v 0 y ∙ get_or-set_other c (place i j) k v 0 x

  pub pair_kept : (k : ℕ) → ((p q : ℕ) → p < n → q < n → ¬ (k ≡ place p q)) → get_or (both c i j v) k 0 ≡ get_or c k 0
  pair_kept k h = other k (h i j hi hj) (h j i hj hi)

  -- a cell is one of the two, or as it was
  pub data Which (p q : ℕ) : Type 0 where
    pair : Pair i j p q → cell (both c i j v) p q ≡ v → Which p q
    same : cell (both c i j v) p q ≡ cell c p q → Which p q

  pub which : (p q : ℕ) → p < n → q < n → Which p q
  which p q hp hq =
      by_cases (ℕ_discrete (place p q) (place j i))
      (λ e. pair (inr (omega arith, omega arith)) (ap (λ k. get_or (both c i j v) k 0) e ∙ there))
      (λ x. by_cases (ℕ_discrete (place p q) (place i j))
      (λ e. pair (inl (omega arith, omega arith)) (ap (λ k. get_or (both c i j v) k 0) e ∙ here))
      (λ y. same (other (place p q) y x)))

  pub at_pair : (p q : ℕ) → Pair i j p q → cell (both c i j v) p q ≡ v
  at_pair p q (inl x) = rw (x.0, x.1) here
  at_pair p q (inr x) = rw (x.0, x.1) there

  -- the two cells of every pair hold the same still
  pub pair_both_ways : BothWays n c → BothWays n (both c i j v)
  pair_both_ways m p q hp hq = go (which p q hp hq) (which q p hq hp)
    where
      swap : {p q : ℕ} → Pair i j p q → Pair i j q p
      swap (inl x) = inr (x.1, x.0)
      swap (inr x) = inl (x.1, x.0)

      go : Which p q → Which q p → cell (both c i j v) p q ≡ cell (both c i j v) q p
      go (pair x e) w = e ∙ sym (at_pair q p (swap x))
      go (same e) (pair x f) = at_pair p q (swap x) ∙ sym f
      go (same e) (same f) = e ∙ m p q hp hq ∙ sym f

-- what is known of i and j is known of either pair
pub of_pair : {d : List ℤ} {i j p q v : ℕ} → Code d i j v → Pair i j p q → Code d p q v
of_pair {d} {v} k (inl x) = rw (x.0, x.1) k
of_pair {d} {v} k (inr x) = rw (x.0, x.1) (code_back k)

-- ---- a table that is marked for the pairs A is marked for this pair too
module _ {d : List ℤ} {i j v : ℕ} (c : List ℕ) (few : corners d ≤ most_corners) (hi : i < corners d)
    (hj : j < corners d) (known : Code d i j v) (room : all_cells ≤ length c) where
  module _ {A : ℕ → ℕ → Type 0} {o : List ℕ} (m : Marked d A o c) where
    abbrev W : ℕ → ℕ → Type 0
    W p q = Which c v few hi hj room p q

    codes : (p q : ℕ) → p < corners d → q < corners d → W p q →
        (cell (both c i j v) p q ≡ 0) ⊎ Code d p q (cell (both c i j v) p q)
    codes p q hp hq (pair x y) = inr (subst (Code d p q) (sym y) (of_pair known x))
    codes p q hp hq (same y) = subst (λ w. (w ≡ 0) ⊎ Code d p q w) (sym y) (m.codes p q hp hq)

    done : (p q : ℕ) → p < corners d → q < corners d → A p q ⊎ Pair i j p q → W p q →
        Code d p q (cell (both c i j v) p q)
    done p q hp hq (inl a) (pair x y) = subst (Code d p q) (sym y) (of_pair known x)
    done p q hp hq (inl a) (same y) = subst (Code d p q) (sym y) (m.done p q hp hq a)
    done p q hp hq (inr x) w = subst (Code d p q) (sym (at_pair c v few hi hj room p q x)) (of_pair known x)

    marked_pair : Marked d (λ p q. A p q ⊎ Pair i j p q) o (both c i j v)
    marked_pair = record {
      codes = λ p q hp hq. codes p q hp hq (which c v few hi hj room p q hp hq);
      done = λ p q hp hq x. done p q hp hq x (which c v few hi hj room p q hp hq);
      both_ways = pair_both_ways c v few hi hj room m.both_ways;
      kept = λ k h. pair_kept c v few hi hj room k h ∙ m.kept k h;
      size = pair_size c v few hi hj room ∙ m.size;
    }

  pub pair_added : {A : ℕ → ℕ → Type 0} {t : List ℕ} → t ≡ both c i j v → Grows d A (λ p q. A p q ⊎ Pair i j p q) c t
  pair_added e = rw e (record { grown = λ o m. marked_pair m; size = pair_size c v few hi hj room })
