-- `drawing::segment::meet` meets its contract.
use mathlib.Core.Path.{◌≡◌, refl, sym, ap, ◌∙◌}
use mathlib.Core.Bool.{Bool}
use mathlib.Core.Logic.{inl, inr}
use Prim.Native.Nat.{◌^◌, ◌<◌}
use lib.IntN.{ℤ}
use lib.Signed.{mag}
use mir.Syntax.{w64}
use mir.Val.{of_z}
use Rattle.outline.specs.Tells.{Tells, if_yes, if_no}
use Rattle.outline.specs.Segments.{OneSide}
use Rattle.drawing.specs.Meeting.{missed, flat_touched, flat_missed, end_touched, crossed}
use Rattle.drawing.proofs.Machine.{back, held, same_bits}
use Rattle.drawing.proofs.segment.meet.Goals as goal

-- the turns s and t of c and of d, as the results r and q that are held
module _ {r q s t : ℤ} (small : mag r < 2 ^ 63) (is : r ≡ s) (small' : mag q < 2 ^ 63) (is' : q ≡ t) where
  one : {b : Bool} → Tells b (OneSide (back r) (back q)) → Tells b (OneSide s t)
  one h = rw (held small is, held small' is') at h

  equal : of_z w64 r ≡ of_z w64 q → s ≡ t
  equal e = same_bits (held small is) (held small' is') e

  differ : ¬ (of_z w64 r ≡ of_z w64 q) → ¬ (s ≡ t)
  differ n e = n (ap (of_z w64) (is ∙ e ∙ sym is'))

pub returns-then-one_side : goal.returns-then-one_side
returns-then-one_side c =
    let first = one c.turn-s.type_inv c.turn-s.ensures c.turn-t.type_inv c.turn-t.ensures c.one_side.ensures in
    missed c.requires.reached (if_yes first c.if-one_side.true)

pub returns-then-touch : goal.returns-then-touch
returns-then-touch c =
    let first = one c.turn-s.type_inv c.turn-s.ensures c.turn-t.type_inv c.turn-t.ensures c.one_side.ensures in
    flat_touched c.requires.reached (if_no first c.if-one_side.false)
    (equal c.turn-s.type_inv c.turn-s.ensures c.turn-t.type_inv c.turn-t.ensures c.if-s-t.true)
    (if_yes c.touch.ensures c.if-touch.true)

pub returns-else-touch : goal.returns-else-touch
returns-else-touch c =
    flat_missed c.requires.reached
    (equal c.turn-s.type_inv c.turn-s.ensures c.turn-t.type_inv c.turn-t.ensures c.if-s-t.true)
    (if_no c.touch.ensures c.if-touch.false)

pub returns-then-s-eq0 : goal.returns-then-s-eq0
returns-then-s-eq0 c =
    let first = one c.turn-s.type_inv c.turn-s.ensures c.turn-t.type_inv c.turn-t.ensures c.one_side.ensures in
    end_touched c.requires.reached (if_no first c.if-one_side.false)
    (differ c.turn-s.type_inv c.turn-s.ensures c.turn-t.type_inv c.turn-t.ensures c.if-s-t.false)
    (inl (same_bits (held c.turn-s.type_inv c.turn-s.ensures) refl c.if-s-eq0.true))

pub returns-then-t-eq0 : goal.returns-then-t-eq0
returns-then-t-eq0 c =
    let first = one c.turn-s.type_inv c.turn-s.ensures c.turn-t.type_inv c.turn-t.ensures c.one_side.ensures in
    end_touched c.requires.reached (if_no first c.if-one_side.false)
    (differ c.turn-s.type_inv c.turn-s.ensures c.turn-t.type_inv c.turn-t.ensures c.if-s-t.false)
    (inr (same_bits (held c.turn-t.type_inv c.turn-t.ensures) refl c.if-t-eq0.true))

pub returns-else-t-eq0 : goal.returns-else-t-eq0
returns-else-t-eq0 c =
    let first = one c.turn-s.type_inv c.turn-s.ensures c.turn-t.type_inv c.turn-t.ensures c.one_side.ensures in
    crossed c.requires.reached (if_no first c.if-one_side.false)
    (differ c.turn-s.type_inv c.turn-s.ensures c.turn-t.type_inv c.turn-t.ensures c.if-s-t.false)
    (λ z. c.if-s-eq0.false (ap (of_z w64) (c.turn-s.ensures ∙ z)))
    (λ z. c.if-t-eq0.false (ap (of_z w64) (c.turn-t.ensures ∙ z)))
