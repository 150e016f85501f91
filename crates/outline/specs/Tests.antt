-- Tests of points that antt computes, each equal to its definition: the same point, a shared point, only a common end,
-- inside an angle.
use Rattle.std.specs.Prelude.{◌≡◌, Bool, true, false, not, ◌&&◌, ◌||◌, ℤ, pos, ◌≤ℤ◌, ◌<ℤ◌}
use Rattle.std.proofs.Common.{ap, subst}
use Rattle.std.specs.Int.Signed.{le_z, lt_z, le_z_yes, lt_z_yes, ≤ℤ_refl}
use Rattle.whole.specs.Order.{≤ℤ_antisym}
use Rattle.outline.specs.Drawing.{Point, Shared, SharedOnlyAt, turn_of, InsideAngle}
use Rattle.outline.specs.Segments.{point_eq, OneSide, Dot}
use Rattle.outline.specs.Quick.{Touch, quick_sound, quick_complete}
use Rattle.outline.specs.Ends.{only_sound, only_complete}
use Rattle.outline.specs.Tells.{Tells, passed, failed, as_well, surely, never, and_tells, or_tells, not_tells}
use Rattle.outline.specs.Tells.{if_tells}

pub lt_tells : (a b : ℤ) → Tells (lt_z a b) (a <ℤ b)
lt_tells a b = record { sure = λ t. lt_z_yes t; told = λ h. h.lt }

pub le_tells : (a b : ℤ) → Tells (le_z a b) (a ≤ℤ b)
le_tells a b = record { sure = λ t. le_z_yes t; told = λ h. h.le }

abbrev pub same_number : ℤ → ℤ → Bool
same_number a b = le_z a b && le_z b a

pub number_tells : (a b : ℤ) → Tells (same_number a b) (a ≡ b)
number_tells a b =
    as_well (and_tells (le_tells a b) (le_tells b a)) (λ h. ≤ℤ_antisym h.0 h.1)
    (λ e. (subst (λ z. a ≤ℤ z) e (≤ℤ_refl a), subst (λ z. z ≤ℤ a) e (≤ℤ_refl a)))

abbrev pub same_test : Point → Point → Bool
same_test a b = same_number a.x b.x && same_number a.y b.y

pub same_tells : (a b : Point) → Tells (same_test a b) (a ≡ b)
same_tells a b =
    as_well (and_tells (number_tells a.x b.x) (number_tells a.y b.y))
    (λ h. point_eq h.0 h.1) (λ e. (ap (λ (p : Point). p.x) e, ap (λ (p : Point). p.y) e))

-- ---- a shared point
abbrev pub side_test : ℤ → ℤ → Bool
side_test s t = (lt_z (pos 0) s && lt_z (pos 0) t) || (lt_z s (pos 0) && lt_z t (pos 0))

pub side_tells : (s t : ℤ) → Tells (side_test s t) (OneSide s t)
side_tells s t =
    or_tells (and_tells (lt_tells (pos 0) s) (lt_tells (pos 0) t))
    (and_tells (lt_tells s (pos 0)) (lt_tells t (pos 0)))

abbrev pub touch_test : Point → Point → Point → Point → Bool
touch_test a b c d =
    (le_z (Dot c a b) (pos 0) || le_z (Dot d a b) (pos 0)) || (le_z (Dot a c d) (pos 0) || le_z (Dot b c d) (pos 0))

pub touch_tells : (a b c d : Point) → Tells (touch_test a b c d) (Touch a b c d)
touch_tells a b c d = or_tells (or_tells (le_tells _ _) (le_tells _ _)) (or_tells (le_tells _ _) (le_tells _ _))

abbrev pub share_test : Point → Point → Point → Point → Bool
share_test a b c d =
    let s = turn_of a b c in
    let t = turn_of a b d in
    elim (side_test s t) as (λ x. Bool) [
      | true ↦ false
      | false ↦ elim (side_test (turn_of c d a) (turn_of c d b)) as (λ x. Bool) [
        | true ↦ false
        | false ↦ elim (same_number s t) as (λ x. Bool) [ true ↦ touch_test a b c d | false ↦ true ]
      ]
    ]

pub share_tells : (a b c d : Point) → Tells (share_test a b c d) (Shared a b c d)
share_tells a b c d =
    as_well (if_tells (side_tells _ _) (never {P = ⊥} (λ x. x))
    (if_tells (side_tells _ _) (never {P = ⊥} (λ x. x))
    (if_tells (number_tells _ _) (touch_tells a b c d) (surely {P = Unit {0}} tt))))
    (λ h. quick_sound (record { first = h.0; second = (h.1 h.0).0; flat = ((h.1 h.0).1 (h.1 h.0).0).0 }))
    (λ s. let k = quick_complete s in (k.first, λ n. (k.second, λ m. (k.flat, λ l. tt))))

-- ---- only a common end
abbrev pub only_test : Point → Point → Point → Bool
only_test e a c =
    elim (same_number (turn_of e a c) (pos 0)) as (λ x. Bool) [ true ↦ le_z (Dot e a c) (pos 0) | false ↦ true ]

pub only_tells : (e a c : Point) → Tells (only_test e a c) (SharedOnlyAt e e a e c)
only_tells e a c =
    as_well (if_tells (number_tells _ _) (le_tells _ _) (surely {P = Unit {0}} tt)) (λ h. only_sound h.0)
    (λ s. (only_complete s, λ n. tt))

-- ---- inside an angle
abbrev pub angle_test : Point → Point → Point → Point → Bool
angle_test p i q j =
    elim (lt_z (pos 0) (turn_of p i q)) as (λ x. Bool) [
      | true ↦ lt_z (pos 0) (turn_of i q j) && lt_z (pos 0) (turn_of i j p)
      | false ↦ not (le_z (pos 0) (turn_of i p j) && le_z (pos 0) (turn_of i j q))
    ]

pub angle_tells : (p i q j : Point) → Tells (angle_test p i q j) (InsideAngle p i q j)
angle_tells p i q j =
    as_well (if_tells (lt_tells _ _) (and_tells (lt_tells _ _) (lt_tells _ _))
    (not_tells (and_tells (le_tells _ _) (le_tells _ _))))
    (λ h. record { left = h.0; other = h.1 }) (λ h. (h.left, h.other))

-- ---- uses: the diagonals of a square, parallel sides, a line that goes on from an end and one that comes back over
-- it
abbrev at : ℤ → ℤ → Point
at a b = record { x = a; y = b }

diagonals : Shared (at (pos 0) (pos 0)) (at (pos 4) (pos 4)) (at (pos 4) (pos 0)) (at (pos 0) (pos 4))
diagonals = passed (share_tells _ _ _ _) tt

sides : ¬ Shared (at (pos 0) (pos 0)) (at (pos 4) (pos 0)) (at (pos 0) (pos 4)) (at (pos 4) (pos 4))
sides = failed (share_tells _ _ _ _) tt

straight_on : SharedOnlyAt (at (pos 2) (pos 1)) (at (pos 2) (pos 1)) (at (pos 0) (pos 0)) (at (pos 2) (pos 1))
    (at (pos 6) (pos 3))
straight_on = passed (only_tells _ _ _) tt

back_over : ¬ SharedOnlyAt (at (pos 6) (pos 3)) (at (pos 6) (pos 3)) (at (pos 0) (pos 0)) (at (pos 6) (pos 3))
    (at (pos 2) (pos 1))
back_over = failed (only_tells _ _ _) tt
