-- A mark on a corner lands on that corner, by any wedge that has it.
use Rattle.std.specs.Prelude.{Option, Some, None, ◌≡◌, refl, List, [], ◌∷◌, ℕ, ℤ, pos, ◌+ℤ◌, ◌*ℤ◌}
use Rattle.std.proofs.Common.{sym, ◌∙◌, ap, subst, inl, inr, lit<}
use Rattle.std.specs.Float.{binary64}
use Rattle.std.specs.Float.Ieee.{of_bits, of_int, div}
use Rattle.whole.specs.Ring.{v, con, ◌:+◌, ◌:*◌, ring}
use Rattle.outline.specs.Drawing.{Point, corner}
use Rattle.marks.specs.Wedges.{Wedge}
use Rattle.marks.specs.Steps.{Rest, InSteps}
use Rattle.marks.specs.Lands.{area, across, upward, wedge_area, weighed, LandsBy}
use Rattle.marks.specs.Areas.{area_round, no_area_from, no_area_to}
use Rattle.marks.specs.Division.{rest_of}
use Rattle.marks.specs.OneWay.{told_same}
use Rattle.marks.specs.Between.{Of}
use Rattle.marks.specs.declared.Axis.{Axis}
use Rattle.marks.specs.declared.Place.{Place}

-- ---- the corner weighs the wedge's whole area, and the two others nothing
only : (u s t d : ℕ) (i j k : ℤ) → u ≡ d → s ≡ 0 → t ≡ 0 → pos u *ℤ i +ℤ pos s *ℤ j +ℤ pos t *ℤ k ≡ pos d *ℤ i
only u s t d i j k e f g =
    (λ l. pos (e l) *ℤ i +ℤ pos (f l) *ℤ j +ℤ pos (g l) *ℤ k)
    ∙ ring (pos d ∷ i ∷ j ∷ k ∷ []) (v 0 :* v 1 :+ con (pos 0) :* v 2 :+ con (pos 0) :* v 3) (v 0 :* v 1) refl

-- three terms from the second on, and from the third on
second_first : (x y z : ℤ) → x +ℤ y +ℤ z ≡ y +ℤ z +ℤ x
second_first x y z = ring (x ∷ y ∷ z ∷ []) (v 0 :+ v 1 :+ v 2) (v 1 :+ v 2 :+ v 0) refl

module _ (first : List ℤ) (at : ℕ → ℤ) (W : Wedge) where
  abbrev c : ℕ
  c = W.centre

  abbrev a : ℕ
  a = W.from

  abbrev b : ℕ
  b = W.to

  abbrev on : ℕ → Point
  on x = corner first x

  abbrev Whole : ℕ → Type 0
  Whole x = weighed first (on x) at W ≡ pos (wedge_area first W) *ℤ at x

  whole_centre : Whole c
  whole_centre = only _ _ _ _ (at c) (at a) (at b) refl (no_area_to (on c) (on b)) (no_area_from (on c) (on a))

  whole_from : Whole a
  whole_from =
      second_first (pos (area (on a) (on a) (on b)) *ℤ at c) (pos (area (on a) (on b) (on c)) *ℤ at a)
      (pos (area (on a) (on c) (on a)) *ℤ at b)
      ∙ only _ _ _ _ (at a) (at b) (at c) (area_round (on c) (on a) (on b)) (no_area_to (on a) (on c))
      (no_area_from (on a) (on b))

  whole_to : Whole b
  whole_to =
      sym (second_first (pos (area (on b) (on c) (on a)) *ℤ at b) (pos (area (on b) (on a) (on b)) *ℤ at c)
      (pos (area (on b) (on b) (on c)) *ℤ at a))
      ∙ only _ _ _ _ (at b) (at c) (at a) (sym (area_round (on b) (on c) (on a))) (no_area_to (on b) (on a))
      (no_area_from (on b) (on c))

  pub whole_corner : (x : ℕ) → Of x W → Whole x
  whole_corner x (inl e) = subst Whole (sym e) whole_centre
  whole_corner x (inr (inl e)) = subst Whole (sym e) whole_from
  whole_corner x (inr (inr e)) = subst Whole (sym e) whole_to

-- ---- told: so many whole steps and no rest
abbrev whole : ℤ → Axis
whole z = record { step = z; rest = of_bits binary64 0 }

no_rest : div binary64 (of_int binary64 (pos 0)) (of_int binary64 (pos 1)) ≡ of_bits binary64 0
unfolding div of_int of_bits
no_rest = refl

told_whole : (z : ℤ) → InSteps z 1 (whole z)
told_whole z = record {
  k = 0;
  whole = ring (z ∷ []) (v 0) (v 0 :* con (pos 1) :+ con (pos 0)) refl;
  part = lit< tt;
  rest = subst (Rest 0 1) no_rest (rest_of 0 1 (lit< tt) (lit< tt));
}

lands_at : (z n : ℤ) (d : ℕ) (t : Axis) → n ≡ pos d *ℤ z → InSteps n d t → t ≡ whole z
lands_at z n d t e h =
    told_same n z d 1 t (whole z)
    (ap (λ y. y *ℤ pos 1) e ∙ ring (pos d ∷ z ∷ []) (v 0 :* v 1 :* con (pos 1)) (v 1 :* v 0) refl) h (told_whole z)

pub on_corner : (first second : List ℤ) (W : Wedge) (x : ℕ) → Of x W → (r : Option Place) →
    LandsBy first second (corner first x) W r →
    r ≡ Some (record { x = whole (across second x); y = whole (upward second x) })
on_corner first second W x o (Some p) h =
    let ax = lands_at (across second x) _ _ p.x (whole_corner first (across second) W x o) h.0 in
    let up = lands_at (upward second x) _ _ p.y (whole_corner first (upward second) W x o) h.1 in
    λ l. Some (record { x = ax l; y = up l })
on_corner first second W x o None h = absurd h
