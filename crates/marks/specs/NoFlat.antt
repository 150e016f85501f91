-- Answers without flat wedges; and a mark on a line that two wedges with an area have in common: both hold it, and it
-- has the same place from either.
use Rattle.std.specs.Prelude.{Option, ◌≡◌, refl, List, ℕ, ◌<◌, ℤ, pos}
use Rattle.std.proofs.Common.{sym, ◌∙◌, subst, inl, inr}
use Rattle.whole.specs.Ring.{◌:-◌, ◌:*◌, ring2}
use Rattle.whole.specs.Order.{zero_cancel}
use Rattle.outline.specs.Drawing.{Point, corner, turn_of}
use Rattle.outline.specs.InOrOn.{spot, OnSegment}
use Rattle.outline.specs.OnSegment.{on_turned}
use Rattle.outline.specs.Spell.{A, B, C, P, Q, O, I, env, At, TurnE}
use Rattle.rules.specs.Lists.{In}
use Rattle.marks.specs.Wedges.{Wedge}
use Rattle.marks.specs.Lands.{wedge_area, Holds, LandsBy}
use Rattle.marks.specs.Lies.{Lies, lies_in}
use Rattle.marks.specs.Between.{Of, same_landing}
use Rattle.marks.specs.declared.Place.{Place}

-- ---- 02, K3: "A wedge may now have no area in the first drawing, so K1's statement on marks between two wedges is
-- kept for answers in which no wedge is so."
abbrev pub NoFlatWedge : List ℤ → List Wedge → Type 0
NoFlatWedge first l = (W : Wedge) → In W l → 0 < wedge_area first W

-- both wedges hold the mark, and it lands in the same place by either
pub record SamePlace (first second : List ℤ) (m : Point) (W W' : Wedge) : Type 0 where
  pub holds : Holds first m W
  pub holds' : Holds first m W'
  pub same : (r r' : Option Place) → LandsBy first second m W r → LandsBy first second m W' r' → r ≡ r'

-- ---- a mark on the line ab does not turn from it
on_straight : (m a b : Point) → OnSegment (spot m) a b → turn_of m a b ≡ pos 0
on_straight m a b o =
    zero_cancel o.q_above
    (ring2 (env a b m m o.p o.q (pos 0)) (Q :* TurnE C A B) O
    (B.y :- A.y) (I :* At Q A.x P B.x) (Q :* C.x) (A.x :- B.x) (I :* At Q A.y P B.y) (Q :* C.y)
    o.on_x o.on_y refl)

-- ---- a mark on a line of a wedge is in or on the wedge; so a wedge with an area holds it
module _ (first : List ℤ) (m : Point) (W : Wedge) (x y : ℕ)
    (o : OnSegment (spot m) (corner first x) (corner first y)) where
  ends : (s t : ℕ) → x ≡ s → y ≡ t → OnSegment (spot m) (corner first s) (corner first t)
  ends s t e f =
      subst (λ k. OnSegment (spot m) (corner first s) (corner first k)) f
      (subst (λ k. OnSegment (spot m) (corner first k) (corner first y)) e o)

  line_lies : ¬ (x ≡ y) → Of x W → Of y W →
      Lies m (corner first W.centre) (corner first W.from) (corner first W.to)
  line_lies n (inl e) (inl f) = absurd (n (e ∙ sym f))
  line_lies n (inl e) (inr (inl f)) = inl (inl (ends W.centre W.from e f))
  line_lies n (inl e) (inr (inr f)) = inl (inr (inr (on_turned (ends W.centre W.to e f))))
  line_lies n (inr (inl e)) (inl f) = inl (inl (on_turned (ends W.from W.centre e f)))
  line_lies n (inr (inl e)) (inr (inl f)) = absurd (n (e ∙ sym f))
  line_lies n (inr (inl e)) (inr (inr f)) = inl (inr (inl (ends W.from W.to e f)))
  line_lies n (inr (inr e)) (inl f) = inl (inr (inr (ends W.to W.centre e f)))
  line_lies n (inr (inr e)) (inr (inl f)) = inl (inr (inl (on_turned (ends W.to W.from e f))))
  line_lies n (inr (inr e)) (inr (inr f)) = absurd (n (e ∙ sym f))

  line_held : 0 < wedge_area first W → ¬ (x ≡ y) → Of x W → Of y W → Holds first m W
  line_held h n p q = record {
    has_area = h;
    in_or_on =
        lies_in (corner first W.centre) (corner first W.from) (corner first W.to) m (line_lies n p q);
  }

-- ---- two wedges with two corners in common
pub common_line : (first second : List ℤ) (m : Point) (W W' : Wedge) → 0 < wedge_area first W →
    0 < wedge_area first W' →
    (x y : ℕ) → ¬ (x ≡ y) → Of x W → Of y W → Of x W' → Of y W' →
    OnSegment (spot m) (corner first x) (corner first y) → SamePlace first second m W W'
common_line first second m W W' area area' x y n p q p' q' o =
    let h : Holds first m W = line_held first m W x y o area n p q in
    let h' : Holds first m W' = line_held first m W' x y o area' n p' q' in
    record {
      holds = h;
      holds' = h';
      same = same_landing first second m W W' x y n p q p' q' h h' (on_straight m (corner first x) (corner first y) o);
    }
