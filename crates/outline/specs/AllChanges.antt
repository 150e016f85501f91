-- Round a closed outline the ends in the strip go out in pairs: from u to w the parity changes by the sum of what the
-- single sides change.
use Rattle.std.specs.Prelude.{◌≡◌, refl, Bool, false, cond, ◌⊎◌, ℕ, zero, suc, ◌<◌, ◌≤◌, eqb, ◌≤ℤ◌, ◌<ℤ◌}
use Rattle.std.proofs.Common.{sym, ◌∙◌, ap, ap₂, subst, inl, inr, arith, le_refl, not-suc-le-zero, eq-eqb, ne_eqb}
use Rattle.std.proofs.Math.Decide.{ℕ_discrete}
use Rattle.whole.specs.Order.{<ℤ_le, ≤ℤ_total}
use Rattle.outline.specs.Drawing.{Point}
use Rattle.outline.specs.Odd.{◌⊕◌}
use Rattle.outline.specs.Passing.{crosses}
use Rattle.outline.specs.Parity.{odd}
use Rattle.outline.specs.ParitySide.{strip}
use Rattle.outline.specs.Xor.{⊕-no, ⊕-same, ⊕-swap, ⊕-chain, ⊕-comm}
use Rattle.outline.specs.SideChanges.{Changes, changes_back}

-- f 0 ⊕ .. ⊕ f (n - 1)
abbrev pub total : (ℕ → Bool) → ℕ → Bool
total f zero = false
total f (suc m) = f m ⊕ total f m

-- from u to w, each of the first n sides changes the parity as f says
abbrev pub SidesChange : (ℕ → Point) → ℕ → Point → Point → (ℕ → Bool) → Type 0
SidesChange c n u w f = (m : ℕ) → m < n → Changes u w (c m) (c (suc m)) (f m)

-- ---- the first n sides: what is left of the strip are the first corner and the last
sides_up : (c : ℕ → Point) (f : ℕ → Bool) (u w : Point) → u.y ≤ℤ w.y → (n : ℕ) → SidesChange c n u w f →
    odd c u n ⊕ odd c w n ≡ (strip u w (c 0) ⊕ strip u w (c n)) ⊕ total f n
sides_up c f u w uw zero h = sym (ap (λ z. z ⊕ false) (⊕-same (strip u w (c 0))))
sides_up c f u w uw (suc n) h =
    ⊕-swap (crosses u (c n) (c (suc n))) (odd c u n) (crosses w (c n) (c (suc n))) (odd c w n)
    ∙ ap₂ ◌⊕◌ ((h n (le_refl (suc n))).up uw) (sides_up c f u w uw n (λ m k. h m (omega arith)))
    ∙ ⊕-swap (strip u w (c n) ⊕ strip u w (c (suc n))) (f n) (strip u w (c 0) ⊕ strip u w (c n)) (total f n)
    ∙ ap (λ z. z ⊕ (f n ⊕ total f n)) (⊕-chain (strip u w (c n)) (strip u w (c (suc n))) (strip u w (c 0)))

-- ---- the closed outline
module _ (c : ℕ → Point) (n : ℕ) (closed : c n ≡ c 0) where
  all_changes : (f : ℕ → Bool) (u w : Point) → SidesChange c n u w f → odd c u n ⊕ odd c w n ≡ total f n
  all_changes f u w h = go (≤ℤ_total u.y w.y)
    where
      pairs_out : (u w : Point) → (strip u w (c 0) ⊕ strip u w (c n)) ⊕ total f n ≡ total f n
      pairs_out u w =
          ap (λ z. (strip u w (c 0) ⊕ strip u w z) ⊕ total f n) closed
          ∙ ap (λ z. z ⊕ total f n) (⊕-same (strip u w (c 0)))

      go : (u.y ≤ℤ w.y) ⊎ (w.y <ℤ u.y) → odd c u n ⊕ odd c w n ≡ total f n
      go (inl k) = sides_up c f u w k n h ∙ pairs_out u w
      go (inr k) =
          ⊕-comm (odd c u n) (odd c w n) ∙ sides_up c f w u (<ℤ_le k) n (λ m i. changes_back (h m i)) ∙ pairs_out w u

  -- no side changes it
  pub none_changes : (u w : Point) → SidesChange c n u w (λ m. false) → odd c u n ⊕ odd c w n ≡ false
  none_changes u w h = all_changes (λ m. false) u w h ∙ nothing n
    where
      nothing : (n : ℕ) → total (λ m. false) n ≡ false
      nothing zero = refl
      nothing (suc n) = nothing n

-- ---- one place, and two
abbrev only : ℕ → Bool → ℕ → Bool
only s e m = cond (eqb m s) e false

only_no : (s m : ℕ) (e : Bool) → ¬ (m ≡ s) → only s e m ≡ false
only_no s m e k = ap (λ z. cond z e false) (ne_eqb m s k)

only_yes : (s m : ℕ) (e : Bool) → m ≡ s → only s e m ≡ e
only_yes s m e k = ap (λ z. cond z e false) (eq-eqb m s k)

only_before : (s : ℕ) (e : Bool) (n : ℕ) → n ≤ s → total (only s e) n ≡ false
only_before s e zero h = refl
only_before s e (suc n) h = ap₂ ◌⊕◌ (only_no s n e (λ k. omega arith)) (only_before s e n (omega arith))

only_total : (s : ℕ) (e : Bool) (n : ℕ) → s < n → total (only s e) n ≡ e
only_total s e zero h = absurd (not-suc-le-zero h)
only_total s e (suc n) h = go (only_total s e n) (ℕ_discrete n s)
  where
    go : (s < n → total (only s e) n ≡ e) → Dec (n ≡ s) → total (only s e) (suc n) ≡ e
    go before (yes k) = ap₂ ◌⊕◌ (only_yes s n e k) (only_before s e n (omega arith)) ∙ ⊕-no e
    go before (no k) = ap₂ ◌⊕◌ (only_no s n e k) (before (omega arith))

both_total : (f g : ℕ → Bool) (n : ℕ) → total (λ m. f m ⊕ g m) n ≡ total f n ⊕ total g n
both_total f g zero = refl
both_total f g (suc n) =
    ap (λ z. (f n ⊕ g n) ⊕ z) (both_total f g n) ∙ ⊕-swap (f n) (g n) (total f n) (total g n)

-- sides s and t change it by e and f, the others do not
module _ (c : ℕ → Point) (n : ℕ) (closed : c n ≡ c 0) (u w : Point) (s t : ℕ) (e f : Bool) where
  abbrev Side : ℕ → Bool → Type 0
  Side m = Changes u w (c m) (c (suc m))

  pub two_changes : s < n → t < n → ¬ (s ≡ t) → Changes u w (c s) (c (suc s)) e → Changes u w (c t) (c (suc t)) f →
      ((m : ℕ) → m < n → ¬ (m ≡ s) → ¬ (m ≡ t) → Changes u w (c m) (c (suc m)) false) →
      odd c u n ⊕ odd c w n ≡ e ⊕ f
  two_changes hs ht st at_s at_t others =
      all_changes c n closed (λ m. only s e m ⊕ only t f m) u w each ∙ both_total (only s e) (only t f) n
      ∙ ap₂ ◌⊕◌ (only_total s e n hs) (only_total t f n ht)
    where
      each : (m : ℕ) → m < n → Side m (only s e m ⊕ only t f m)
      each m hm = go (ℕ_discrete m s) (ℕ_discrete m t)
        where
          go : Dec (m ≡ s) → Dec (m ≡ t) → Side m (only s e m ⊕ only t f m)
          go (yes k) (yes l) = absurd (st (sym k ∙ l))
          go (yes k) (no l) =
              subst (Side m) (sym (ap₂ ◌⊕◌ (only_yes s m e k) (only_no t m f l) ∙ ⊕-no e))
              (subst (λ l. Side l e) (sym k) at_s)
          go (no k) (yes l) =
              subst (Side m) (sym (ap₂ ◌⊕◌ (only_no s m e k) (only_yes t m f l))) (subst (λ l. Side l f) (sym l) at_t)
          go (no k) (no l) =
              subst (Side m) (sym (ap₂ ◌⊕◌ (only_no s m e k) (only_no t m f l))) (others m hm k l)
