-- Round a closed outline. Whether the number of sides to the right is odd differs between P and Q by the sides one by
-- one. Where each side keeps the rule of `ParitySide`, every corner counts twice, so the two are alike; where one side
-- breaks it, they differ. So the ends of a segment that meets no side have one parity.
use Rattle.std.specs.Prelude.{◌≡◌, Bool, true, false, not, ◌⊎◌, ℕ, zero, suc, ◌<◌, ◌≤ℤ◌, ◌<ℤ◌}
use Rattle.std.proofs.Common.{sym, ◌∙◌, ap, subst, inl, inr, le_refl, not-suc-le-zero, arith}
use Rattle.whole.specs.Order.{<ℤ_le, ≤ℤ_total}
use Rattle.outline.specs.Drawing.{Point, Shared}
use Rattle.outline.specs.Segments.{turned_first}
use Rattle.outline.specs.Passing.{crosses}
use Rattle.outline.specs.Odd.{◌⊕◌}
use Rattle.outline.specs.Xor.{⊕-same, ⊕-zero, ⊕-swap, ⊕-chain, ⊕-not, ⊕-move}
use Rattle.outline.specs.Topmost.{last}
use Rattle.outline.specs.Parity.{odd}
use Rattle.outline.specs.ParitySide.{strip, side}

module _ (c : ℕ → Point) (P Q : Point) where
  abbrev differ : ℕ → Bool
  differ m = crosses P (c m) (c (suc m)) ⊕ crosses Q (c m) (c (suc m))

  abbrev strips : ℕ → ℕ → Bool
  strips k m = strip P Q (c k) ⊕ strip P Q (c m)

  -- side m keeps the rule, or breaks it
  abbrev Kept : ℕ → Type 0
  Kept m = differ m ≡ strips m (suc m)

  abbrev pub Flipped : ℕ → Type 0
  Flipped m = differ m ≡ not (strips m (suc m))

  -- one side more
  more : (n : ℕ) → odd c P (suc n) ⊕ odd c Q (suc n) ≡ differ n ⊕ (odd c P n ⊕ odd c Q n)
  more n = ⊕-swap (crosses P (c n) (c (suc n))) (odd c P n) (crosses Q (c n) (c (suc n))) (odd c Q n)

  link : (n : ℕ) → strips n (suc n) ⊕ strips 0 n ≡ strips 0 (suc n)
  link n = ⊕-chain (strip P Q (c n)) (strip P Q (c (suc n))) (strip P Q (c 0))

  kept_sum : (n : ℕ) → ((m : ℕ) → m < n → Kept m) → odd c P n ⊕ odd c Q n ≡ strips 0 n
  kept_sum zero h = sym (⊕-same (strip P Q (c 0)))
  kept_sum (suc n) h =
      more n
      ∙ ap (λ z. z ⊕ (odd c P n ⊕ odd c Q n)) (h n (le_refl (suc n)))
      ∙ ap (λ z. strips n (suc n) ⊕ z) (kept_sum n (λ m k. h m (omega arith)))
      ∙ link n

  flipped_sum : (s : ℕ) → Flipped s → (n : ℕ) → s < n → ((m : ℕ) → m < n → ¬ (m ≡ s) → Kept m) →
      odd c P n ⊕ odd c Q n ≡ not (strips 0 n)
  flipped_sum s f zero b h = absurd (not-suc-le-zero b)
  flipped_sum s f (suc n) b h = go (flipped_sum s f n) (last s n b)
    where
      go : (s < n → ((m : ℕ) → m < n → ¬ (m ≡ s) → Kept m) → odd c P n ⊕ odd c Q n ≡ not (strips 0 n)) →
          (s < n) ⊎ (s ≡ n) → odd c P (suc n) ⊕ odd c Q (suc n) ≡ not (strips 0 (suc n))
      go ih (inl i) =
          more n
          ∙ ap (λ z. z ⊕ (odd c P n ⊕ odd c Q n)) (h n (le_refl (suc n)) (λ e. omega arith))
          ∙ ap (λ z. strips n (suc n) ⊕ z) (ih i (λ m k. h m (omega arith)))
          ∙ ⊕-move (strips n (suc n)) (strips 0 n)
          ∙ ap not (link n)
      go ih (inr e) =
          more n
          ∙ ap (λ z. z ⊕ (odd c P n ⊕ odd c Q n)) (subst Flipped e f)
          ∙ ap (λ z. not (strips n (suc n)) ⊕ z) (kept_sum n (λ m k. h m (omega arith) (λ i. omega arith)))
          ∙ ⊕-not (strips n (suc n)) (strips 0 n)
          ∙ ap not (link n)

-- ---- closed: the first corner and the last are one
module _ (c : ℕ → Point) (n : ℕ) (closed : c n ≡ c 0) where
  none_left : (P Q : Point) → strip P Q (c 0) ⊕ strip P Q (c n) ≡ false
  none_left P Q = ap (λ z. strip P Q (c 0) ⊕ strip P Q z) closed ∙ ⊕-same (strip P Q (c 0))

  same_parity_up : (P Q : Point) → P.y ≤ℤ Q.y → ((m : ℕ) → m < n → ¬ Shared P Q (c m) (c (suc m))) →
      odd c P n ≡ odd c Q n
  same_parity_up P Q pq h =
      ⊕-zero (kept_sum c P Q n (λ m b. side P Q (c m) (c (suc m)) pq (h m b)) ∙ none_left P Q)

  pub same_parity : (P Q : Point) → ((m : ℕ) → m < n → ¬ Shared P Q (c m) (c (suc m))) → odd c P n ≡ odd c Q n
  same_parity P Q h = go (≤ℤ_total P.y Q.y)
    where
      go : (P.y ≤ℤ Q.y) ⊎ (Q.y <ℤ P.y) → odd c P n ≡ odd c Q n
      go (inl k) = same_parity_up P Q k h
      go (inr k) = sym (same_parity_up Q P (<ℤ_le k) (λ m b s. h m b (turned_first s)))

  -- one side breaks the rule, and no other meets PQ
  pub flipped_parity : (P Q : Point) → P.y ≤ℤ Q.y → (s : ℕ) → s < n → Flipped c P Q s →
      ((m : ℕ) → m < n → ¬ (m ≡ s) → ¬ Shared P Q (c m) (c (suc m))) → odd c P n ⊕ odd c Q n ≡ true
  flipped_parity P Q pq s b f h =
      flipped_sum c P Q s f n b (λ m i e. side P Q (c m) (c (suc m)) pq (h m i e)) ∙ ap not (none_left P Q)
