-- No road comes before one that takes every corner. So where the lowest centre that fits has such a road, its piece is
-- taken.
use Rattle.std.proofs.Math.Path.{◌≡◌, refl, ap, ap₂}
use Rattle.std.proofs.Common.{◌∙◌, arith}
use Rattle.std.specs.Prelude.{Bool, ◌&&◌, ◌||◌, ◌∷◌}
use Rattle.std.proofs.Math.Bool.{true, false}
use Prim.Native.Nat.{ℕ, zero, suc, ◌+◌, ◌-◌, ◌<◌, ◌≤◌}
use Rattle.std.proofs.Math.Decide.{dec_lt, ℕ_discrete}
use borrow.Author.Tests.{le-ltb, ne_eqb, eq-eqb}
use Rattle.std.proofs.Math.Dec.{eqb}
use Rattle.limits.specs.Limits.{row}
use Rattle.rules.specs.Choice.{fits, less, next_of, rest_of, better, pick_from, pick_of}
use Rattle.rules.specs.Follow.{Goes, next_goes, rest_end, rest_next}

module _ (top : ℕ) (w val left col : ℕ → ℕ → ℕ) (j : ℕ) where
  -- the centre x takes every corner from c on
  abbrev pub Every : ℕ → ℕ → Type 0
  Every x c = (a : ℕ) → c ≤ a → a < j → next_of top w val left col x j a ≡ suc a

  unbeaten : (f x y c : ℕ) → x ≤ j → y ≤ j → c ≤ j → j ≤ c + f → Every x c →
      less (rest_of top w val left col y j c) (rest_of top w val left col x j c) ≡ false
  unfolding Goes
  unbeaten zero x y c xj yj cj hf e =
      ap (λ l. less l (rest_of top w val left col x j c)) (rest_end top w val left col y j c (omega arith))
  unbeaten (suc f) x y c xj yj cj hf e = go (dec_lt c j) (λ b. unbeaten f x y b xj yj)
    where
      go : Dec (c < j) →
          ((b : ℕ) → b ≤ j → j ≤ b + f → Every x b →
          less (rest_of top w val left col y j b) (rest_of top w val left col x j b) ≡ false) →
          less (rest_of top w val left col y j c) (rest_of top w val left col x j c) ≡ false
      go (no p) k =
          ap (λ l. less l (rest_of top w val left col x j c)) (rest_end top w val left col y j c (omega arith))
      go (yes p) k =
          let q = next_goes top w val left col y j yj c p in
          let h = e c (omega arith) p in
          ap₂ less (rest_next top w val left col y j c yj p)
          (rest_next top w val left col x j c xj p ∙ ap (λ (z : ℕ). z ∷ rest_of top w val left col x j z) h)
          ∙ step (next_of top w val left col y j c) q.0 (ℕ_discrete (next_of top w val left col y j c) (suc c))
        where
          step : (d : ℕ) → c < d → Dec (d ≡ suc c) →
              less (d ∷ rest_of top w val left col y j d) (suc c ∷ rest_of top w val left col x j (suc c)) ≡ false
          step d l (yes z) =
              rw (le-ltb d (suc c) (omega arith), eq-eqb d (suc c) z)
              (ap (λ (u : ℕ). less (rest_of top w val left col y j u) (rest_of top w val left col x j (suc c))) z
              ∙ k (suc c) (omega arith) (omega arith) (λ a ca aj. e a (omega arith) aj))
          step d l (no z) = rw (le-ltb d (suc c) (omega arith), ne_eqb d (suc c) z) refl

  module _ (right : ℕ → ℕ) (i x : ℕ) (ix : i ≤ x) (xj : x ≤ j) (j64 : j < row)
      (fit : fits top w val left right i j x ≡ true)
      (lowest : (y : ℕ) → i ≤ y → y < x → fits top w val left right i j y ≡ false) (every : Every x i) where
    before : (k : ℕ) → i + k ≤ x → pick_from top w val left col right i j k ≡ row
    unfolding pick_from better
    before zero h = refl
    before (suc k) h =
        ap (λ (b : ℕ). better top w val left col right i j b (i + k)) (before k (omega arith))
        ∙ rw (lowest (i + k) (omega arith) (omega arith), better) refl

    after : (k : ℕ) → x < i + k → i + k ≤ suc j → pick_from top w val left col right i j k ≡ x
    unfolding pick_from better
    after zero h l = absurd (omega arith)
    after (suc k) h l = go (dec_lt x (i + k)) (after k)
      where
        stays : (p q : Bool) → eqb x row ≡ false →
            ◌≡◌ {A = ℕ} (elim (p && (eqb x row || q)) [ true ↦ i + k | false ↦ x ])
            (elim (p && q) [ true ↦ i + k | false ↦ x ])
        stays p q e = rw e refl

        none : (p : Bool) → ◌≡◌ {A = ℕ} (elim (p && false) [ true ↦ i + k | false ↦ x ]) x
        none true = refl
        none false = refl

        took : (p q r : Bool) → p ≡ true → q ≡ true → ◌≡◌ {A = ℕ} (elim (p && (q || r)) [ true ↦ x | false ↦ row ]) x
        took p q r e f = rw (e, f) refl

        go : Dec (x < i + k) → (x < i + k → i + k ≤ suc j → pick_from top w val left col right i j k ≡ x) →
            better top w val left col right i j (pick_from top w val left col right i j k) (i + k) ≡ x
        go (yes p) f =
            ap (λ (b : ℕ). better top w val left col right i j b (i + k)) (f p (omega arith))
            ∙ (stays (fits top w val left right i j (i + k))
            (less (rest_of top w val left col (i + k) j i) (rest_of top w val left col x j i))
            (ne_eqb x row (λ e. omega arith))
            ∙ ap (λ (q : Bool). elim (fits top w val left right i j (i + k) && q) [ true ↦ i + k | false ↦ x ])
            (unbeaten j x (i + k) i xj (omega arith) (omega arith) (omega arith) every)
            ∙ none (fits top w val left right i j (i + k)))
        go (no p) f =
            let e : i + k ≡ x = omega arith in
            ap (λ (b : ℕ). better top w val left col right i j b (i + k)) (before k (omega arith))
            ∙ ap (λ (y : ℕ). better top w val left col right i j row y) e
            ∙ took (fits top w val left right i j x) (eqb row row)
            (less (rest_of top w val left col x j i) (rest_of top w val left col row j i)) fit (eq-eqb row row refl)

    pub pick_lowest : pick_of top w val left col right i j ≡ x
    pick_lowest = after (suc (j - i)) (omega arith) (omega arith)
