-- The theorems of `CentreMirror`: its definitions and first laws are in specs/.
use Rattle.std.specs.Prelude.{Bool, true, false, not, ◌||◌, List, ℕ, ◌<◌, eqb, ℤ, pos}
use Rattle.std.proofs.Common.{subst}
use Rattle.outline.specs.Drawing.{Point, Simple, corner, corners, after}
use Rattle.outline.specs.InOrOn.{InOrOn, CentreSees}
use Rattle.outline.specs.Tells.{Tells, as_well, surely, or_tells, not_tells, case_tells}
use Rattle.outline.specs.Tells.{then_tells, eq_tells, all_below, all_tells}
use Rattle.outline.specs.Placed.{On}
use Rattle.outline.specs.Parity.{odd, large}
use Rattle.outline.specs.OnTest.{on_test, on_tells, side_test, side_tells}
use Rattle.outline.specs.EveryPoint.{sum2}
use Rattle.outline.specs.Reading.{round}
use Rattle.outline.proofs.Reading.{in_read, in_said}
use Rattle.outline.specs.CornersApart.{corners_apart}
use Rattle.outline.specs.CentreTest.{half}
use Rattle.outline.proofs.CentreTest.{test_enough, test_needed}
use Rattle.outline.specs.CentreSight.{centre_self}
use Rattle.outline.specs.CentreMirror.{crosses_tells, crosses_test, true_tells}

module _ (d : List ℤ) where
  -- ---- half way between a and b, in or on: in a drawing twice as large
  abbrev twice : ℕ → Point
  twice = large (pos 2) (round d)

  abbrev half_test : Point → Point → Bool
  half_test a b = side_test twice (corners d) (sum2 a b) || odd twice (sum2 a b) (corners d)

  half_tells : (a b : Point) → Tells (half_test a b) (InOrOn d (half a b))
  half_tells a b =
      as_well (or_tells (side_tells twice (corners d) (sum2 a b)) (true_tells (odd twice (sum2 a b) (corners d))))
      (λ h. in_said d (half a b) h) (λ h. in_read d (half a b) h)

  -- ---- the crossings before the middles, and middles only of corners on the segment
  abbrev clear_test : ℕ → ℕ → Bool
  clear_test i j =
      all_below (corners d) (λ k. not (crosses_test (corner d i) (corner d j) (corner d k) (corner d (after d k))))

  abbrev halves_test : ℕ → ℕ → Bool
  halves_test i j =
      all_below (corners d) (λ k. elim (on_test (corner d k) (corner d i) (corner d j)) as (λ x. Bool) [
        | true ↦ all_below (corners d) (λ l. elim (on_test (corner d l) (corner d i) (corner d j)) as (λ x. Bool) [
          | true ↦ half_test (corner d k) (corner d l)
          | false ↦ true
        ])
        | false ↦ true
      ])

  abbrev pub centre_test : ℕ → ℕ → Bool
  centre_test i j =
      elim (eqb i j) as (λ x. Bool) [
        | true ↦ true
        | false ↦ elim (clear_test i j) as (λ x. Bool) [ true ↦ halves_test i j | false ↦ false ]
      ]

  module _ (simple : Simple d) (i j : ℕ) (hi : i < corners d) (hj : j < corners d) where
    abbrev OnIt : ℕ → Type 0
    OnIt k = On (corner d k) (corner d i) (corner d j)

    -- of a corner on the segment, P
    where_on : {P : Type 0} {p : Bool} (k : ℕ) → Tells p P →
        Tells (elim (on_test (corner d k) (corner d i) (corner d j)) as (λ x. Bool) [ true ↦ p | false ↦ true ])
        (OnIt k → P)
    where_on k t =
        case_tells (on_tells (corner d k) (corner d i) (corner d j)) (λ o. as_well t (λ p q. p) (λ f. f o))
        (λ n. surely (λ o. absurd (n o)))

    pub centre_tells : Tells (centre_test i j) (CentreSees d i j)
    centre_tells =
        case_tells (eq_tells i j) (λ e. surely (subst (λ k. CentreSees d i k) e (centre_self i hi)))
        (λ ne. as_well
        (then_tells
        (all_tells (corners d)
        (λ k h. not_tells (crosses_tells (corner d i) (corner d j) (corner d k) (corner d (after d k)))))
        (all_tells {P = λ k. OnIt k → (l : ℕ) → l < corners d → OnIt l → InOrOn d (half (corner d k) (corner d l))}
        (corners d)
        (λ k h. where_on k (all_tells {P = λ l. OnIt l → InOrOn d (half (corner d k) (corner d l))} (corners d)
        (λ l g. where_on l (half_tells (corner d k) (corner d l)))))))
        (λ t. test_enough d i j hi hj (corners_apart d simple i j hi hj ne)
        (record { clear = t.0; halves = λ k l hk hl ok ol. t.1 k hk ok l hl ol }))
        (λ s. let f = test_needed d i j hi hj simple ne s in
        (f.clear, λ k hk ok l hl ol. f.halves k l hk hl ok ol)))
