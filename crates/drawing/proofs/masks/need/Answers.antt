-- `drawing::masks::need` meets its contract.
use mathlib.Core.Path.{◌≡◌, refl, ap, ◌∙◌}
use mathlib.Core.Logic.{inl, inr}
use lib.Signed.{clash_ℤ}
use Rattle.whole.specs.Bounds.{lt_yes, lt_no}
use Rattle.outline.specs.Drawing.{corner, corners, prev, after, turn_of}
use Rattle.drawing.proofs.Machine.{back, held, turn_same}
use Rattle.drawing.proofs.masks.need.Goals as goal

pub returns-then-turn-gt0 : goal.returns-then-turn-gt0
returns-then-turn-gt0 c =
    let bend : let s = c.args in
    let d = s.ring.xy.now in
    back c.turn.result ≡ turn_of (corner d (prev (corners d) s.i)) (corner d s.i) (corner d (after d s.i)) =
    let d = c.args.ring.xy.now in
    let p = c.corner-p.ensures.is ∙ ap (corner d) c.prev-h.ensures.is in
    let q = c.corner-q.ensures.is ∙ ap (corner d) c.next-m.ensures.is in
    held c.turn.type_inv (c.turn.ensures ∙ turn_same p c.corner-a.ensures.is q) in
    inl (refl, lt_yes refl bend c.if-turn-gt0.true)

pub returns-else-turn-gt0 : goal.returns-else-turn-gt0
returns-else-turn-gt0 c =
    let bend : let s = c.args in
    let d = s.ring.xy.now in
    back c.turn.result ≡ turn_of (corner d (prev (corners d) s.i)) (corner d s.i) (corner d (after d s.i)) =
    let d = c.args.ring.xy.now in
    let p = c.corner-p.ensures.is ∙ ap (corner d) c.prev-h.ensures.is in
    let q = c.corner-q.ensures.is ∙ ap (corner d) c.next-m.ensures.is in
    held c.turn.type_inv (c.turn.ensures ∙ turn_same p c.corner-a.ensures.is q) in
    inr (refl, λ h. clash_ℤ h (lt_no refl bend c.if-turn-gt0.false))
