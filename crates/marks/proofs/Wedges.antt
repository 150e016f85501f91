-- From what the corners of a wedge weigh to the statement: whether the wedge holds the mark, and where the mark lands
-- by it.
use Rattle.std.proofs.Common.{◌≡◌, sym, ◌∙◌, subst, ℕ, ◌+◌, ◌<◌, arith, List, ℤ, pos, ◌+ℤ◌, ◌*ℤ◌}
use Rattle.std.specs.Prelude.{Some, None}
use Rattle.outline.specs.Drawing.{Point, corner}
use Rattle.marks.specs.Wedges.{Wedge}
use Rattle.marks.specs.Steps.{InSteps}
use Rattle.marks.specs.Lands.{area, across, upward, wedge_area, weighed, Holds}
use Rattle.marks.specs.Areas.{Adds, in_adds}
use Rattle.marks.specs.Parts.{Weighs, Placed, Tried}
use Rattle.marks.specs.declared.Axis.{Axis}
use Rattle.marks.specs.declared.Place.{Place}
use Rattle.marks.specs.declared.sizes.Weights.{Weights}

-- three points are the corners of a wedge in a drawing
abbrev pub Corners : List ℤ → Wedge → Point → Point → Point → Type 0
Corners d W c a b = (c ≡ corner d W.centre) × (a ≡ corner d W.from) × (b ≡ corner d W.to)

module _ (first second : List ℤ) (m : Point) (W : Wedge) where
  abbrev p : Point
  p = corner first W.centre

  abbrev q : Point
  q = corner first W.from

  abbrev s : Point
  s = corner first W.to

  -- no area, or the mark is outside
  pub missed : {c a b : Point} → Corners first W c a b → Weighs m c a b None → ¬ Holds first m W
  missed e h k =
      let w : Weighs m p q s None = subst (λ T. T) (λ l. Weighs m (e.0 l) (e.1 l) (e.2 l) None) h in
      w k.has_area ((in_adds p q s m k.has_area).0 k.in_or_on)

  module _ (w : Weights) (h : Weighs m p q s (Some w)) where
    adds : Adds m p q s
    adds = sym (λ l. h.0 l + h.1 l + h.2 l) ∙ w.adds ∙ h.3

    some : 0 < area p q s
    some = omega (arith, w.some, h.3)

    holds : Holds first m W
    holds = record { has_area = some; in_or_on = (in_adds p q s m some).1 adds }

    -- the weights, as areas
    by_areas : (at : ℕ → ℤ) (x : Axis) →
        InSteps (pos w.centre *ℤ at W.centre +ℤ pos w.from *ℤ at W.from +ℤ pos w.to *ℤ at W.to) w.whole x →
        InSteps (weighed first m at W) (wedge_area first W) x
    by_areas at x k =
        subst (λ T. T)
        (λ l. InSteps (pos (h.0 l) *ℤ at W.centre +ℤ pos (h.1 l) *ℤ at W.from +ℤ pos (h.2 l) *ℤ at W.to) (h.3 l) x) k

    lands : (P : Place) → Placed w (corner second W.centre) (corner second W.from) (corner second W.to) P →
        Tried first second m W (Some P)
    lands P k = (holds, (by_areas (across second) P.x k.0, by_areas (upward second) P.y k.1))

  pub landed : {c a b c' a' b' : Point} → Corners first W c a b → Corners second W c' a' b' →
      (w : Weights) → Weighs m c a b (Some w) →
      (P : Place) → Placed w c' a' b' P → Tried first second m W (Some P)
  landed e f w h P k =
      lands w (subst (λ T. T) (λ l. Weighs m (e.0 l) (e.1 l) (e.2 l) (Some w)) h) P
      (subst (λ T. T) (λ l. Placed w (f.0 l) (f.1 l) (f.2 l) P) k)
