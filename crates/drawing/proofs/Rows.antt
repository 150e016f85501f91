-- A row as its pairs are decided, and all rows.
use mathlib.Core.Path.{◌≡◌, sym, ap, ◌∙◌, subst}
use mathlib.Core.Logic.{◌⊎◌, inl, inr, by_cases}
use mathlib.Core.List.{List}
use Prim.Native.Nat.{ℕ, ◌+◌, ◌-◌, ◌/◌, ◌^◌, ◌≤◌, ◌<◌}
use native.Mathlib.Decide.{ℕ_discrete, dec_lt}
use native.Mathlib.Omega.{arith}
use lib.IntN.{ℤ}
use lib.ListN.{length}
use Rattle.limits.specs.Limits.{all_cells}
use Rattle.whole.specs.Bits.{bit, bit_nought, bit_from, others_stay}
use Rattle.whole.specs.Masks.{marked, mark, others}
use Rattle.outline.specs.Drawing.{Sound, corners, Angle, Beside}
use Rattle.outline.specs.InOrOn.{CentreSees}
use Rattle.outline.specs.Seeing.{beside_back, beside_or}
use Rattle.outline.specs.CentreSight.{centre_mutual}
use Rattle.outline.specs.Begins.{Begins}
use Rattle.outline.proofs.Begins.{inside_or_along}
use Rattle.drawing.specs.Table.{Early, RowsDone, Grows, Decided}
use Rattle.drawing.specs.Known.{FacedBy}
use Rattle.drawing.proofs.Growing.{grows_on, grows_in, grows_as}
use Rattle.drawing.proofs.Pairs.{Pair, pair_added}

-- ---- a row: the marks of `rest` are still to come, digit k of it for corner i + k
abbrev pub RowDone : List ℤ → ℕ → ℕ → ℕ → ℕ → Type 0
RowDone d i rest p q =
    RowsDone d i p q ⊎ (((p ≡ i) × (i ≤ q) × (bit rest (q - i) ≡ 0)) ⊎ ((q ≡ i) × (i ≤ p) × (bit rest (p - i) ≡ 0)))

-- told early, the other way round
pub early_back : (d : List ℤ) (p q : ℕ) → Early d p q → Early d q p
early_back d p q (inl b) = inl (beside_back d p q b)
early_back d p q (inr (inl b)) = inr (inr b)
early_back d p q (inr (inr b)) = inr (inl b)

module _ {d : List ℤ} (sound : Sound d) {i : ℕ} (hi : i < corners d) where
  -- at first: whoever sees i as a centre, and is not told early, has i inside the angle
  pub row_start : {f : ℕ} {c : List ℕ} → FacedBy d i f → Grows d (RowsDone d i) (RowDone d i (f / 2 ^ i)) c c
  row_start {f} {c} marks = grows_as sound start
    where
      off : (q : ℕ) → q < corners d → i ≤ q → bit (f / 2 ^ i) (q - i) ≡ 0 → ¬ Angle d q i
      off q hq l z a =
          let at : bit f (i + (q - i)) ≡ 0 = sym (bit_from f i (q - i)) ∙ z in
          let is : i + (q - i) ≡ q = omega (arith, l) in
          omega (arith, ap (bit f) is, at, marked marks q hq a)

      near : (q : ℕ) → q < corners d → i ≤ q → bit (f / 2 ^ i) (q - i) ≡ 0 → CentreSees d q i → Early d q i
      near q hq l z s = go (beside_or d q i)
        where
          told : Angle d q i ⊎ Begins d q i → Early d q i
          told (inl a) = absurd (off q hq l z a)
          told (inr b) = inr (inl b)

          go : Beside d q i ⊎ (¬ Beside d q i) → Early d q i
          go (inl b) = inl b
          go (inr n) = told (inside_or_along d sound q i hq hi n s)

      start : (p q : ℕ) → p < corners d → q < corners d → RowDone d i (f / 2 ^ i) p q → CentreSees d p q →
          RowsDone d i p q
      start p q hp hq (inl h) s = h
      start p q hp hq (inr (inl h)) s =
          let back = centre_mutual (subst (λ x. CentreSees d x q) h.0 s) in
          inl (subst (λ x. Early d x q) (sym h.0) (early_back d q i (near q hq h.1 h.2 back)))
      start p q hp hq (inr (inr h)) s =
          let here = subst (λ x. CentreSees d p x) h.0 s in
          inl (subst (λ x. Early d p x) (sym h.0) (near p hp h.1 h.2 here))

  -- the next mark is passed
  row_more : {rest j : ℕ} {A : ℕ → ℕ → Type 0} {c : List ℕ} → rest < 2 ^ 64 → ¬ (rest ≡ 0) → j ≡ i + mark rest →
      ((p q : ℕ) → RowDone d i rest p q → A p q) → ((p q : ℕ) → Pair i j p q → CentreSees d p q → A p q) →
      Grows d A (RowDone d i (others rest)) c c
  row_more {rest} {j} {A} fits n is f g = grows_as sound more
    where
      stays : (k : ℕ) → ¬ (k ≡ mark rest) → bit (others rest) k ≡ 0 → bit rest k ≡ 0
      stays k x z = sym (others_stay 64 rest k fits (omega arith) x) ∙ z

      more : (p q : ℕ) → p < corners d → q < corners d → RowDone d i (others rest) p q → CentreSees d p q → A p q
      more p q hp hq (inl h) s = f p q (inl h)
      more p q hp hq (inr (inl h)) s =
          by_cases (ℕ_discrete (q - i) (mark rest)) (λ e. g p q (inl (h.0, omega (arith, h.1, e, is))) s)
          (λ x. f p q (inr (inl (h.0, h.1, stays (q - i) x h.2))))
      more p q hp hq (inr (inr h)) s =
          by_cases (ℕ_discrete (p - i) (mark rest)) (λ e. g p q (inr (omega (arith, h.1, e, is), h.0)) s)
          (λ x. f p q (inr (inr (h.0, h.1, stays (p - i) x h.2))))

  pub row_end : {rest : ℕ} {c : List ℕ} → rest ≡ 0 → Grows d (RowDone d i rest) (RowsDone d (i + 1)) c c
  row_end {rest} z = grows_in all
    where
      dark : (k : ℕ) → bit rest k ≡ 0
      dark k = ap (λ x. bit x k) z ∙ bit_nought k

      first : (p q : ℕ) → p < i + 1 → RowDone d i rest p q
      first p q l =
          by_cases (dec_lt p i) (λ x. inl (inr (inl x)))
          (λ x. by_cases (dec_lt q i) (λ y. inl (inr (inr y)))
          (λ y. inr (inl (omega arith, omega arith, dark (q - i)))))

      second : (p q : ℕ) → q < i + 1 → RowDone d i rest p q
      second p q l =
          by_cases (dec_lt q i) (λ x. inl (inr (inr x)))
          (λ x. by_cases (dec_lt p i) (λ y. inl (inr (inl y)))
          (λ y. inr (inr (omega arith, omega arith, dark (p - i)))))

      all : (p q : ℕ) → p < corners d → q < corners d → RowsDone d (i + 1) p q → RowDone d i rest p q
      all p q hp hq (inl b) = inl (inl b)
      all p q hp hq (inr (inl l)) = first p q l
      all p q hp hq (inr (inr l)) = second p q l

-- the next mark is decided
pub row_decided : {d : List ℤ} {i j rest : ℕ} {c t : List ℕ} → Sound d → i < corners d → j < corners d →
    all_cells ≤ length c → rest < 2 ^ 64 → ¬ (rest ≡ 0) → j ≡ i + mark rest → Decided d i j c t →
    Grows d (RowDone d i rest) (RowDone d i (others rest)) c t
row_decided sound hi hj room fits n is (inl (v, k, e)) =
    grows_on (pair_added _ sound.shaped.few hi hj k room e)
    (row_more sound hi fits n is (λ p q r. inl r) (λ p q r s. inr r))
row_decided {d} {i} {j} {rest} sound hi hj room fits n is (inr x) =
    rw x.1 (row_more sound hi fits n is (λ p q r. r) hidden)
  where
    hidden : (p q : ℕ) → Pair i j p q → CentreSees d p q → RowDone d i rest p q
    hidden p q (inl y) s =
        let here = subst (λ z. CentreSees d z j) y.0 (subst (λ z. CentreSees d p z) y.1 s) in
        inl (inl (rw (y.0, y.1) (x.0 here)))
    hidden p q (inr y) s =
        let back = subst (λ z. CentreSees d z i) y.0 (subst (λ z. CentreSees d p z) y.1 s) in
        inl (inl (rw (y.0, y.1) (early_back d i j (x.0 (centre_mutual back)))))

-- the corner of the next mark, k corners after i: i is inside the angle there
pub row_next : (d : List ℤ) (i f k : ℕ) → FacedBy d i f → bit (f / 2 ^ i) k ≡ 1 → corners d ≤ 64 →
    (i + k < corners d) × (i + k < 64) × Angle d (i + k) i
row_next d i f k faces on few =
    let h = faces.yes (i + k) (sym (bit_from f i k) ∙ on) in
    (h.0, omega (arith, h.0, few), h.1)

-- ---- no row is done yet
pub rows_first : {d : List ℤ} {c : List ℕ} → Grows d (Early d) (RowsDone d 0) c c
rows_first {d} = grows_in none
  where
    none : (p q : ℕ) → p < corners d → q < corners d → RowsDone d 0 p q → Early d p q
    none p q hp hq (inl b) = b
    none p q hp hq (inr (inl l)) = absurd (omega (arith, l))
    none p q hp hq (inr (inr l)) = absurd (omega (arith, l))
