-- Where a mark lands: document 02, K1. To be believed; the theorem is K1's "exactly when no wedge holds it".
use Rattle.std.specs.Prelude.{Option, Some, None, ◌≡◌, refl, ◌⊎◌, ◌↔◌, List, [], ◌∷◌, ℕ, ◌<◌, ℤ, pos, nat_abs, ◌+ℤ◌, ◌*ℤ◌}
use Rattle.std.proofs.Common.{sym, subst, inl, inr}
use Rattle.outline.specs.Drawing.{Point, corner, turn_of}
use Rattle.outline.specs.InOrOn.{spot, InOrOn}
use Rattle.rules.specs.Lists.{In}
use Rattle.marks.specs.Wedges.{Wedge}
use Rattle.marks.specs.Steps.{InSteps}
use Rattle.marks.specs.declared.Place.{Place}

-- ---- three corners: as a drawing, and twice the area that they cover, whichever way they turn
abbrev pub triangle : Point → Point → Point → List ℤ
triangle a b c = a.x ∷ a.y ∷ b.x ∷ b.y ∷ c.x ∷ c.y ∷ []

abbrev pub area : Point → Point → Point → ℕ
area a b c = nat_abs (turn_of a b c)

-- ---- a wedge in the first drawing
module _ (first : List ℤ) where
  abbrev pub wedge_drawing : Wedge → List ℤ
  wedge_drawing W = triangle (corner first W.centre) (corner first W.from) (corner first W.to)

  abbrev pub wedge_area : Wedge → ℕ
  wedge_area W = area (corner first W.centre) (corner first W.from) (corner first W.to)

  -- "The mark lies in or on" it, by 01's sentence; "wedges of no area in the first drawing are passed over"
  pub record Holds (m : Point) (W : Wedge) : Type 0 where
    pub has_area : 0 < wedge_area W
    pub in_or_on : InOrOn (wedge_drawing W) (spot m)

  -- "area weights": a corner weighs the area of the mark with the two others. So much, over the wedge's area, is one
  -- axis of the place, where `at` has the corners' coordinates in the second drawing.
  abbrev pub weighed : Point → (ℕ → ℤ) → Wedge → ℤ
  weighed m at W =
      pos (area m (corner first W.from) (corner first W.to)) *ℤ at W.centre
      +ℤ pos (area m (corner first W.to) (corner first W.centre)) *ℤ at W.from
      +ℤ pos (area m (corner first W.centre) (corner first W.from)) *ℤ at W.to

-- ---- "lands where the same area weights put it in the second drawing"
abbrev pub across : List ℤ → ℕ → ℤ
across second i = (corner second i).x

abbrev pub upward : List ℤ → ℕ → ℤ
upward second i = (corner second i).y

module _ (first second : List ℤ) (m : Point) where
  abbrev pub LandsBy : Wedge → Option Place → Type 0
  LandsBy W (Some p) =
      InSteps (weighed first m (across second) W) (wedge_area first W) p.x
      × InSteps (weighed first m (upward second) W) (wedge_area first W) p.y
  LandsBy W None = ⊥

  -- "the first such wedge in the answer's order"; "on no piece" where there is none
  abbrev pub Lands : List Wedge → Option Place → Type 0
  Lands [] r = r ≡ None
  Lands (W ∷ l) r = (Holds first m W × LandsBy W r) ⊎ ((¬ Holds first m W) × Lands l r)

  -- ---- "the latter exactly when no wedge holds it"
  none_holds : (l : List Wedge) (r : Option Place) → Lands l r → r ≡ None → (W : Wedge) → In W l → ¬ Holds first m W
  none_holds [] r h e W i = absurd i
  none_holds (U ∷ l) r (inl h) e W i = absurd (subst (LandsBy U) e h.1)
  none_holds (U ∷ l) r (inr h) e W (inl q) = subst (λ X. ¬ Holds first m X) (sym q) h.0
  none_holds (U ∷ l) r (inr h) e W (inr i) = none_holds l r h.1 e W i

  on_none : (l : List Wedge) (r : Option Place) → Lands l r → ((W : Wedge) → In W l → ¬ Holds first m W) → r ≡ None
  on_none [] r h f = h
  on_none (U ∷ l) r (inl h) f = absurd (f U (inl refl) h.0)
  on_none (U ∷ l) r (inr h) f = on_none l r h.1 (λ W i. f W (inr i))

  pub on_no_piece : (l : List Wedge) (r : Option Place) → Lands l r →
      (r ≡ None) ↔ ((W : Wedge) → In W l → ¬ Holds first m W)
  on_no_piece l r h = (none_holds l r h, on_none l r h)
