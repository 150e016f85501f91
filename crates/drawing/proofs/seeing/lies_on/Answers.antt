-- `drawing::seeing::lies_on` meets its contract.
use mathlib.Core.Path.{◌≡◌, refl, ap, ◌∙◌}
use mir.Syntax.{w64}
use mir.Val.{of_z}
use Rattle.outline.specs.Drawing.{corner, turn_of}
use Rattle.outline.specs.Tells.{as_well, eq_tells}
use Rattle.outline.specs.Placed.{dot_on, on_dot}
use Rattle.drawing.proofs.Machine.{by_le, held, same_bits, dot_same, turn_same}
use Rattle.drawing.proofs.seeing.lies_on.Goals as goal

pub returns-then-turn-eq0 : goal.returns-then-turn-eq0
returns-then-turn-eq0 c =
    let line : let s = c.args in
    c.turn.result ≡ turn_of (corner s.ring.xy.now s.i) (corner s.ring.xy.now s.j) (corner s.ring.xy.now s.k) =
    c.turn.ensures ∙
    turn_same c.corner-a.ensures.is c.corner-b.ensures.is
    c.corner-c.ensures.is in
    let flat = same_bits (held c.turn.type_inv line) refl c.if-turn-eq0.true in
    let e = c.dot.ensures ∙
    dot_same c.corner-c.ensures.is c.corner-a.ensures.is
    c.corner-b.ensures.is in
    by_le (held c.dot.type_inv e) refl (dot_on flat) on_dot

pub returns-else-turn-eq0 : goal.returns-else-turn-eq0
returns-else-turn-eq0 c =
    let line : let s = c.args in
    c.turn.result ≡ turn_of (corner s.ring.xy.now s.i) (corner s.ring.xy.now s.j) (corner s.ring.xy.now s.k) =
    c.turn.ensures ∙
    turn_same c.corner-a.ensures.is c.corner-b.ensures.is
    c.corner-c.ensures.is in
    as_well (eq_tells (of_z w64 c.turn.result) 0) (λ e. absurd (c.if-turn-eq0.false e))
    (λ o. ap (of_z w64) (line ∙ o.line))
