-- If left of every side of a simple closed outline the parity is even, its doubled area is not above zero: in each row
-- the sides that go up come to no more than those that go down (`OneRow`), and the rows add up to the area
-- (`RowParts`).
use Rattle.std.specs.Prelude.{◌≡◌, Bool, true, false, [], ◌∷◌, ◌+ℤ◌, ◌-ℤ◌, ◌*ℤ◌, ◌≤ℤ◌}
use Rattle.std.proofs.Math.Path.{refl, ap, ap₂, subst}
use Rattle.std.proofs.Common.{sym, ◌∙◌, arith, le_refl}
use Prim.Native.Nat.{ℕ, zero, suc, ◌<◌, ◌≤◌}
use Rattle.std.proofs.Math.Decide.{ℕ_discrete}
use Rattle.std.proofs.Math.IntN.{ℤ, pos, *ℤ-zero}
use Rattle.std.specs.Int.Signed.{lt_z, ≤ℤ_refl}
use Rattle.whole.specs.Ring.{v, ◌:+◌, ◌:-◌, ◌:*◌, ring}
use Rattle.whole.specs.Order.{Positive, positive_pos, positive_mul, le_cancel, +ℤ_mono}
use Rattle.outline.specs.Drawing.{Point}
use Rattle.outline.specs.Odd.{◌⊕◌}
use Rattle.outline.specs.Parity.{pt, odd, out, large}
use Rattle.outline.specs.Xor.{⊕-zero}
use Rattle.outline.specs.EveryPoint.{Simple}
use Rattle.outline.specs.Inner.{Inner, inner_shared}
use Rattle.outline.specs.Rising.{rises}
use Rattle.outline.specs.Met.{met}
use Rattle.outline.specs.Value.{left, side_unmet, value_of}
use Rattle.outline.specs.Sums.{sum, sum_same, sum_nought, sum_add, sum_times, sum_steps, Bounds, bounds, upward}
use Rattle.outline.specs.RowStep.{through, lift, odd_right}
use Rattle.outline.specs.OneRow.{row}
use Rattle.outline.specs.CommonHeight.{Common, common}
use Rattle.outline.specs.HalfHeight.{scale, row_height, place, crosses_row, inner_row, rises_row}
use Rattle.outline.specs.RowParts.{part, part_step, part_low, part_high}

-- the doubled area of a closed outline: x y' - x' y over its sides
abbrev pub area : (ℕ → Point) → ℕ → ℤ
area c n = sum (λ m. (c m).x *ℤ (c (suc m)).y -ℤ (c (suc m)).x *ℤ (c m).y) n

module _ (c : ℕ → Point) (n : ℕ) (closed : c n ≡ c 0) (simple : Simple c n)
    (even_left : (k : ℕ) → k < n → left c n k ≡ false) where
  g : Common (λ m. (c m).y) n
  g = common (λ m. (c m).y) n

  scale+ : Positive (scale g.D)
  scale+ = positive_mul (positive_pos 1) g.D+

  -- ---- the row between h and h + 1
  -- which corners are higher, where the sides pass, and its points
  abbrev high : ℤ → ℕ → Bool
  high h m = lt_z h (c m).y

  X : ℤ → ℕ → ℤ
  X h m = place g.D (g.times m) (c m) (c (suc m)) h

  row_at : ℤ → ℤ → Point
  row_at h x = pt x (row_height g.D h)

  odd_row : (h x : ℤ) (t : ℕ) → t ≤ n → odd (large (scale g.D) c) (row_at h x) t ≡ odd_right (high h) (X h) x t
  unfolding X row_at
  odd_row h x zero k = refl
  odd_row h x (suc t) k =
      ap₂ ◌⊕◌ (crosses_row g.D (g.times t) (c t) (c (suc t)) h g.D+ (g.divides t k) x)
      (odd_row h x t (omega arith))

  inner : (h : ℤ) (k : ℕ) → k < n → through (high h) k ≡ true →
      Inner (row_at h (X h k)) (out (scale g.D) (c k)) (out (scale g.D) (c (suc k)))
  unfolding X row_at
  inner h k hk f = inner_row g.D (g.times k) (c k) (c (suc k)) h g.D+ (g.divides k hk) f

  -- right of a side that goes up the number is odd: its value is its direction, for left of it the parity is even
  ranks : (h : ℤ) (k : ℕ) → k < n → through (high h) k ≡ true → odd_right (high h) (X h) (X h k) n ≡ high h (suc k)
  ranks h k hk f =
      sym (odd_row h (X h k) n (le_refl n))
      ∙ value_of c n closed simple (scale g.D) scale+ k hk (row_at h (X h k)) (inner h k hk f)
      ∙ ⊕-zero (even_left k hk)
      ∙ rises_row g.D (g.times k) (c k) (c (suc k)) h g.D+ (g.divides k hk) f
      (rises (c k) (c (suc k)) (simple.ends k hk))

  -- no two sides pass at one place
  distinct : (h : ℤ) (k m : ℕ) → k < n → m < n → through (high h) k ≡ true → through (high h) m ≡ true →
      X h k ≡ X h m → k ≡ m
  distinct h k m hk hm fk fm e = go (ℕ_discrete m k)
    where
      z : Point
      z = row_at h (X h k)

      on_m : Inner z (out (scale g.D) (c m)) (out (scale g.D) (c (suc m)))
      on_m =
          subst (λ x. Inner (row_at h x) (out (scale g.D) (c m)) (out (scale g.D) (c (suc m)))) (sym e)
          (inner h m hm fm)

      go : Dec (m ≡ k) → k ≡ m
      go (yes f) = sym f
      go (no f) =
          absurd (side_unmet c n closed simple k m hk hm f
          (met (scale g.D) scale+ (c k) (c (suc k)) (c m) (c (suc m)) z z (inner h k hk fk) (inner h k hk fk)
          (inner_shared z (out (scale g.D) (c m)) (out (scale g.D) (c (suc m))) on_m)))

  row_low : (h : ℤ) → sum (λ m. lift (high h) m *ℤ X h m) n ≤ℤ pos 0
  row_low h = row (high h) (X h) n (distinct h) (ranks h) (ap (λ a. lt_z h a.y) closed)

  -- ---- all rows below u
  rows : ℤ → ℤ
  rows u = sum (λ m. part g.D (g.times m) (c m) (c (suc m)) u) n

  rows_step : (u : ℤ) → rows (u +ℤ pos 1) ≡ rows u +ℤ sum (λ m. lift (high u) m *ℤ X u m) n
  unfolding rows X
  rows_step u =
      sum_same (λ m. part g.D (g.times m) (c m) (c (suc m)) (u +ℤ pos 1))
      (λ m. part g.D (g.times m) (c m) (c (suc m)) u +ℤ lift (high u) m *ℤ X u m) n
      (λ m h. part_step g.D (g.times m) (c m) (c (suc m)) u)
      ∙ sum_add (λ m. part g.D (g.times m) (c m) (c (suc m)) u) (λ m. lift (high u) m *ℤ X u m) n

  bound : Bounds (λ m. (c m).y) (suc n)
  bound = bounds (λ m. (c m).y) (suc n)

  rows_bottom : rows bound.low ≤ℤ pos 0
  unfolding rows
  rows_bottom =
      subst (λ w. w ≤ℤ pos 0)
      (sym (sum_nought (λ m. part g.D (g.times m) (c m) (c (suc m)) bound.low) n
      (λ m h. part_low g.D (g.times m) (c m) (c (suc m)) bound.low (bound.under m (omega arith))
      (bound.under (suc m) (omega arith)))))
      (≤ℤ_refl (pos 0))

  rows_all : rows bound.high ≤ℤ pos 0
  rows_all =
      upward (λ u. rows u ≤ℤ pos 0) bound.low rows_bottom
      (λ u h. subst (λ w. w ≤ℤ pos 0) (sym (rows_step u)) (+ℤ_mono h (row_low u))) bound.high bound.low_high

  -- ---- come to D times the area
  rows_area : rows bound.high ≡ g.D *ℤ area c n
  unfolding rows
  rows_area =
      sum_same (λ m. part g.D (g.times m) (c m) (c (suc m)) bound.high) (λ m. g.D *ℤ trapeze m) n
      (λ m h. part_high g.D (g.times m) (c m) (c (suc m)) (g.divides m h) bound.high
      (bound.over m (omega arith)) (bound.over (suc m) (omega arith)))
      ∙ sum_times g.D trapeze n ∙ ap (λ w. g.D *ℤ w) trapezes
    where
      trapeze : ℕ → ℤ
      trapeze m = ((c (suc m)).y -ℤ (c m).y) *ℤ ((c m).x +ℤ (c (suc m)).x)

      side : ℕ → ℤ
      side m = (c m).x *ℤ (c (suc m)).y -ℤ (c (suc m)).x *ℤ (c m).y

      product : ℕ → ℤ
      product m = (c m).x *ℤ (c m).y

      -- they differ by the steps of x y, which round the outline make nothing
      trapezes : sum trapeze n ≡ area c n
      trapezes =
          sum_same trapeze (λ m. side m +ℤ (product (suc m) -ℤ product m)) n
          (λ m h. ring ((c m).x ∷ (c m).y ∷ (c (suc m)).x ∷ (c (suc m)).y ∷ []) ((v 3 :- v 1) :* (v 0 :+ v 2))
          (v 0 :* v 3 :- v 2 :* v 1 :+ (v 2 :* v 3 :- v 0 :* v 1)) refl)
          ∙ sum_add side (λ m. product (suc m) -ℤ product m) n
          ∙ ap (λ w. area c n +ℤ w) (sum_steps product n ∙ ap (λ a. a.x *ℤ a.y -ℤ product 0) closed)
          ∙ ring (area c n ∷ product 0 ∷ []) (v 0 :+ (v 1 :- v 1)) (v 0) refl

  pub area_low : area c n ≤ℤ pos 0
  area_low =
      le_cancel g.D+
      (subst (λ w. (g.D *ℤ area c n) ≤ℤ w) (sym (*ℤ-zero g.D)) (subst (λ w. w ≤ℤ pos 0) rows_area rows_all))
