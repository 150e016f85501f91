-- Weighted sums as the machine computes them. The weights add up to an area, so a sum, and each part of it, stays
-- within an area times a coordinate.
use Rattle.std.proofs.Common.{◌≡◌, sym, ℕ, ◌+◌, ◌*◌, ◌≤◌, arith, le_trans, mul-le-mul_left, lt→ltb, lt_of_le_of_lt, lit<, subst, ℤ, pos, nat_abs, ◌+ℤ◌, ◌*ℤ◌, ◌<ℤ◌, to_z, w64, SFits}
use Rattle.std.proofs.Math.Facts.{to_z_pos}
use Rattle.std.specs.Int.Signed.{lt_z_yes}
use Rattle.limits.specs.Limits.{furthest}
use Rattle.whole.specs.Bounds.{Val, par, loc, lit, plus, times, bound}
use Rattle.drawing.proofs.Machine.{back}
use Rattle.marks.specs.Sizes.{most_area, most_weighed}
use Rattle.marks.specs.Steps.{InSteps}
use Rattle.marks.specs.Parts.{Share, Reach, sum}
use Rattle.marks.specs.declared.Axis.{Axis}
use Rattle.marks.specs.declared.sizes.Weights.{Weights}

-- ---- sizes of sums
size_add : (x y : ℤ) → nat_abs (x +ℤ y) ≤ nat_abs x + nat_abs y
size_add x y = (plus (lit x) (lit y)).below

part_size : (u i : ℤ) → nat_abs i ≤ furthest → nat_abs (u *ℤ i) ≤ nat_abs u * furthest
part_size u i h = le_trans (times (lit u) (lit i)).below (mul-le-mul_left (nat_abs u) h)

at_most : {z x : ℤ} {A B : ℕ} → nat_abs x ≤ B → Val z x A → Val z x B
at_most b h = record { is = h.is; below = b }

-- ---- a weight as the machine casts it
pub cast : {n : ℕ} → n ≤ most_area → Val (to_z w64 n) (pos n) most_area
cast {n} h = record { is = to_z_pos w64 (lt_of_le_of_lt h (lit< tt)); below = h }

module _ (w : Weights) {i j k : ℤ} (r : Reach i j k) where
  abbrev u : ℤ
  u = pos w.centre

  abbrev s : ℤ
  s = pos w.from

  abbrev t : ℤ
  t = pos w.to

  two_within : nat_abs (u *ℤ i +ℤ s *ℤ j) ≤ most_weighed
  two_within =
      omega (
        arith,
        size_add (u *ℤ i) (s *ℤ j),
        part_size u i r.i_close,
        part_size s j r.j_close,
        w.adds,
        w.small,
      )

  three_within : nat_abs (sum w i j k) ≤ most_weighed
  three_within =
      omega (
        arith,
        size_add (u *ℤ i +ℤ s *ℤ j) (t *ℤ k),
        size_add (u *ℤ i) (s *ℤ j),
        part_size u i r.i_close,
        part_size s j r.j_close,
        part_size t k r.k_close,
        w.adds,
        w.small,
      )

  -- ---- the products and their sums, as the machine holds them
  module _ (i_fits : SFits w64 i) (j_fits : SFits w64 j) (k_fits : SFits w64 k) where
    ui : Val (to_z w64 w.centre *ℤ back i) (u *ℤ i) most_weighed
    ui =
        times {A = 8000000000000} {B = 1000000} (cast (omega (arith, w.adds, w.small)))
        (par {w = w64} i_fits r.i_close)

    sj : Val (to_z w64 w.from *ℤ back j) (s *ℤ j) most_weighed
    sj =
        times {A = 8000000000000} {B = 1000000} (cast (omega (arith, w.adds, w.small)))
        (par {w = w64} j_fits r.j_close)

    tk : Val (to_z w64 w.to *ℤ back k) (t *ℤ k) most_weighed
    tk =
        times {A = 8000000000000} {B = 1000000} (cast (omega (arith, w.adds, w.small)))
        (par {w = w64} k_fits r.k_close)

    pub two : Val (back (to_z w64 w.centre *ℤ back i) +ℤ back (to_z w64 w.from *ℤ back j)) (u *ℤ i +ℤ s *ℤ j)
        most_weighed
    two = at_most two_within (plus (loc w64 (tt {0}) ui) (loc w64 (tt {0}) sj))

    pub three : Val
        (back (back (to_z w64 w.centre *ℤ back i) +ℤ back (to_z w64 w.from *ℤ back j))
        +ℤ back (to_z w64 w.to *ℤ back k))
        (sum w i j k) most_weighed
    three = at_most three_within (plus (loc w64 (tt {0}) two) (loc w64 (tt {0}) tk))

-- ---- what is divided
pub share : (w : Weights) {n x : ℤ} → Val n x most_weighed → Share n (to_z w64 w.whole)
share w h = record {
  some = subst (λ z. pos 0 <ℤ z) (sym (cast w.small).is) (lt_z_yes (lt→ltb 0 w.whole w.some));
  area = bound (cast w.small);
  far = bound h;
}

pub told_as : (w : Weights) {n x : ℤ} {a : Axis} → n ≡ x → InSteps n (nat_abs (to_z w64 w.whole)) a →
    InSteps x w.whole a
told_as w {a} e h = subst (λ p. p) (λ l. InSteps (e l) (nat_abs ((cast w.small).is l)) a) h
