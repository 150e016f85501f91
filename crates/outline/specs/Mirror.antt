-- Tests of whole drawings that antt computes, each equal to its definition: the shape, the range, simple, sound, and
-- who sees whom. Branches are `elim`, and a loop takes the largest number first: nothing is tested that need not be.
use Rattle.std.specs.Prelude.{Bool, true, false, not, ◌&&◌, ◌||◌, List, ℕ, ◌*◌, eqb, leb, ℤ, pos, neg_ℤ, length, get_or, ◌<ℤ◌}
use Rattle.std.proofs.Common.{inl, inr, ⊎_elim}
use Rattle.std.specs.Int.Signed.{le_z, lt_z}
use Rattle.limits.specs.Limits.{fewest_corners, most_corners, furthest}
use Rattle.outline.specs.Drawing.{corner, corners, prev, after}
use Rattle.outline.specs.Drawing.{Shaped, InRange, Simple, doubled_area, Sound, Beside, Sees}
use Rattle.outline.specs.Segments.{only_first}
use Rattle.outline.specs.Sides.{SidesApart, SideStands, simple_of, stands_of}
use Rattle.outline.specs.Seeing.{begins_at_i, ends_at_i, begins_at_j, ends_at_j, ends_at_neither, sees_of}
use Rattle.outline.specs.Seeing.{Passes, clear_sight, clear_passes}
use Rattle.outline.specs.Tells.{Tells, as_well, same_as, surely, never, and_tells, or_tells, not_tells}
use Rattle.outline.specs.Tells.{case_tells, then_tells, eq_tells, most_tells, all_below, all_tells}
use Rattle.outline.specs.Tests.{lt_tells, le_tells, same_test, same_tells, share_test, share_tells, only_test}
use Rattle.outline.specs.Tests.{only_tells, angle_test, angle_tells}

-- ---- the shape and the range
abbrev pub shaped_test : List ℤ → Bool
shaped_test d = eqb (length d) (2 * corners d) && (leb fewest_corners (corners d) && leb (corners d) most_corners)

pub shaped_tells : (d : List ℤ) → Tells (shaped_test d) (Shaped d)
shaped_tells d =
    as_well (and_tells (eq_tells _ _) (and_tells (most_tells _ _) (most_tells _ _)))
    (λ h. record { even = h.0; enough = h.1.0; few = h.1.1 }) (λ h. (h.even, (h.enough, h.few)))

abbrev pub in_range_test : List ℤ → Bool
in_range_test d =
    all_below (length d) (λ k. le_z (neg_ℤ (pos furthest)) (get_or d k (pos 0)) && le_z (get_or d k (pos 0))
    (pos furthest))

pub in_range_tells : (d : List ℤ) → Tells (in_range_test d) (InRange d)
in_range_tells d =
    as_well (all_tells (length d) (λ k l. and_tells (le_tells _ _) (le_tells _ _)))
    (λ h. record { low = λ k l. (h k l).0; high = λ k l. (h k l).1 }) (λ h k l. (h.low k l, h.high k l))

module _ (d : List ℤ) where
  -- ---- simple: each side against the one after it and those before it
  abbrev apart_test : ℕ → ℕ → Bool
  apart_test i j =
      elim (eqb (after d i) j || eqb (after d j) i) as (λ x. Bool) [
        | true ↦ true
        | false ↦ not (share_test (corner d i) (corner d (after d i)) (corner d j) (corner d (after d j)))
      ]

  apart_tells : (i j : ℕ) → Tells (apart_test i j) (SidesApart d i j)
  apart_tells i j =
      case_tells (or_tells (eq_tells _ _) (eq_tells _ _))
      (λ e. surely (record { apart = λ n m. absurd (⊎_elim n m e) }))
      (λ n. as_well (not_tells (share_tells _ _ _ _)) (λ s. record { apart = λ l m. s })
      (λ a. a.apart (λ e. n (inl e)) (λ e. n (inr e))))

  abbrev side_test : ℕ → Bool
  side_test i =
      elim (same_test (corner d i) (corner d (after d i))) as (λ x. Bool) [
        | true ↦ false
        | false ↦ elim
            (only_test (corner d (after d i)) (corner d i) (corner d (after d (after d i)))) as (λ x. Bool) [
              | true ↦ all_below i (apart_test i)
              | false ↦ false
            ]
      ]

  side_tells : (i : ℕ) → Tells (side_test i) (SideStands d i)
  side_tells i =
      case_tells (same_tells _ _) (λ e. never (λ s. s.two_ends e))
      (λ n. as_well (then_tells (only_tells _ _ _) (all_tells i (λ j l. apart_tells i j)))
      (λ h. record { two_ends = n; neighbour = only_first h.0; others = h.1 })
      (λ s. (only_first s.neighbour, s.others)))

  abbrev pub simple_test : Bool
  simple_test = all_below (corners d) side_test

  pub simple_tells : Tells simple_test (Simple d)
  simple_tells = as_well (all_tells (corners d) (λ i l. side_tells i)) simple_of stands_of

  -- ---- sound
  abbrev pub area_test : Bool
  area_test = lt_z (pos 0) (doubled_area d)

  pub area_tells : Tells area_test (pos 0 <ℤ doubled_area d)
  area_tells = lt_tells _ _

  abbrev pub sound_test : Bool
  sound_test = shaped_test d && (in_range_test d && (simple_test && area_test))

  pub sound_tells : Tells sound_test (Sound d)
  sound_tells =
      as_well (and_tells (shaped_tells d) (and_tells (in_range_tells d) (and_tells simple_tells area_tells)))
      (λ h. record { shaped = h.0; in_range = h.1.0; simple = h.1.1.0; anticlockwise = h.1.1.1 })
      (λ h. (h.shaped, (h.in_range, (h.simple, h.anticlockwise))))

  -- ---- sight: the segment from corner i to corner j against side k, by where the side ends
  abbrev pass_test : ℕ → ℕ → ℕ → Bool
  pass_test i j k =
      elim (eqb k i) as (λ x. Bool) [
        | true ↦ only_test (corner d i) (corner d j) (corner d (after d k))
        | false ↦ elim (eqb (after d k) i) as (λ x. Bool) [
          | true ↦ only_test (corner d i) (corner d j) (corner d k)
          | false ↦ elim (eqb k j) as (λ x. Bool) [
            | true ↦ only_test (corner d j) (corner d i) (corner d (after d k))
            | false ↦ elim (eqb (after d k) j) as (λ x. Bool) [
              | true ↦ only_test (corner d j) (corner d i) (corner d k)
              | false ↦ not (share_test (corner d i) (corner d j) (corner d k) (corner d (after d k)))
            ]
          ]
        ]
      ]

  pass_tells : (i j k : ℕ) → ¬ Beside d i j → Tells (pass_test i j k) (Passes d i j k)
  pass_tells i j k apart =
      case_tells (eq_tells k i) (λ e. same_as (begins_at_i apart e) (only_tells _ _ _))
      (λ f. case_tells (eq_tells (after d k) i) (λ e. same_as (ends_at_i apart e) (only_tells _ _ _))
      (λ g. case_tells (eq_tells k j) (λ e. same_as (begins_at_j apart e) (only_tells _ _ _))
      (λ h. case_tells (eq_tells (after d k) j) (λ e. same_as (ends_at_j apart e) (only_tells _ _ _))
      (λ l. same_as (ends_at_neither f g h l) (not_tells (share_tells _ _ _ _))))))

  abbrev look_test : ℕ → ℕ → Bool
  look_test i j = angle_test (corner d (prev (corners d) i)) (corner d i) (corner d (after d i)) (corner d j)

  -- the angles before the sides: they cost less than a loop
  abbrev pub sees_test : ℕ → ℕ → Bool
  sees_test i j =
      elim (eqb i j || (eqb (after d i) j || eqb (after d j) i)) as (λ x. Bool) [
        | true ↦ true
        | false ↦ elim (look_test i j && look_test j i) as (λ x. Bool) [
          | true ↦ all_below (corners d) (pass_test i j)
          | false ↦ false
        ]
      ]

  pub sees_tells : (i j : ℕ) → Tells (sees_test i j) (Sees d i j)
  sees_tells i j =
      case_tells (or_tells (eq_tells _ _) (or_tells (eq_tells _ _) (eq_tells _ _)))
      (λ b. surely (record { sees = inl b }))
      (λ n. as_well
      (then_tells (and_tells (angle_tells _ _ _ _) (angle_tells _ _ _ _))
      (all_tells (corners d) (λ k l. pass_tells i j k n)))
      (λ h. sees_of h.0.0 h.0.1 h.1)
      (λ s. let c = clear_sight n s in ((c.angle_at_i, c.angle_at_j), clear_passes c)))
