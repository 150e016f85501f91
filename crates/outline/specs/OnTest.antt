-- A pair of whole numbers on a segment, and on a side of a drawing, as truth values that antt computes.
use Rattle.std.specs.Prelude.{◌≡◌, Bool, true, false, ℕ, zero, suc, ◌<◌, pos}
use Rattle.std.proofs.Common.{subst, not-suc-le-zero, le_refl, arith}
use Rattle.std.proofs.Math.Decide.{ℕ_discrete}
use Rattle.std.specs.Int.Signed.{le_z}
use Rattle.outline.specs.Drawing.{Point, turn_of}
use Rattle.outline.specs.Segments.{Dot}
use Rattle.outline.specs.Tells.{Tells, Decide, decided, as_well, surely, never, case_tells, then_tells}
use Rattle.outline.specs.Tests.{le_tells, same_number, number_tells}
use Rattle.outline.specs.Placed.{On, on_dot, dot_on}
use Rattle.outline.specs.Parity.{OnSide}

-- ---- by line and product
abbrev pub on_test : Point → Point → Point → Bool
on_test z a b =
    elim (same_number (turn_of a b z) (pos 0)) as (λ x. Bool) [ true ↦ le_z (Dot z a b) (pos 0) | false ↦ false ]

pub on_tells : (z a b : Point) → Tells (on_test z a b) (On z a b)
on_tells z a b =
    as_well (then_tells (number_tells _ _) (le_tells _ _)) (λ h. dot_on h.0 h.1) (λ o. (o.line, on_dot o))

-- ---- some number below n, the largest first
abbrev some_below : ℕ → (ℕ → Bool) → Bool
some_below zero p = false
some_below (suc n) p = elim (p n) as (λ x. Bool) [ true ↦ true | false ↦ some_below n p ]

some_tells : {P : ℕ → Type 0} (n : ℕ) {p : ℕ → Bool} → ((i : ℕ) → i < n → Tells (p i) (P i)) →
    Tells (some_below n p) ((i : ℕ) × (i < n) × P i)
some_tells zero f = never (λ h. not-suc-le-zero h.1)
some_tells {P} (suc n) {p} f =
    case_tells (f n (le_refl (suc n))) (λ h. surely (n, le_refl (suc n), h))
    (λ none. as_well (some_tells {P = P} n {p = p} (λ i l. f i (omega arith)))
    (λ h. (h.0, omega (arith, h.1), h.2)) (λ h. below none h (ℕ_discrete h.0 n)))
  where
    below : ¬ P n → (h : (i : ℕ) × (i < suc n) × P i) → Dec (h.0 ≡ n) → (i : ℕ) × (i < n) × P i
    below none h (yes e) = absurd (none (subst P e h.2))
    below none h (no ne) = (h.0, omega (arith, h.1, ne), h.2)

-- ---- on a side
module _ (c : ℕ → Point) (n : ℕ) (z : Point) where
  abbrev pub side_test : Bool
  side_test = some_below n (λ m. on_test z (c m) (c (suc m)))

  pub side_tells : Tells side_test (OnSide c n z)
  side_tells =
      as_well (some_tells n (λ m h. on_tells z (c m) (c (suc m))))
      (λ h. record { m = h.0; below = h.1; on = h.2 }) (λ o. (o.m, o.below, o.on))

  pub on_side_dec : Decide (OnSide c n z)
  on_side_dec = decided side_tells
