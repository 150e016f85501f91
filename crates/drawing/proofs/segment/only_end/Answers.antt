-- `drawing::segment::only_end` meets its contract.
use mathlib.Core.Path.{refl, ap, ◌∙◌}
use mir.Syntax.{w64}
use mir.Val.{of_z}
use Rattle.outline.specs.Ends.{only_sound, only_complete}
use Rattle.outline.specs.Tells.{as_well, eq_tells, not_tells}
use Rattle.drawing.proofs.Machine.{by_le, held, same_bits}
use Rattle.drawing.proofs.segment.only_end.Goals as goal

pub returns-then-turn-ne0 : goal.returns-then-turn-ne0
returns-then-turn-ne0 c =
    as_well (not_tells (eq_tells (of_z w64 c.turn.result) 0))
    (λ n. only_sound (λ e. absurd (n (ap (of_z w64) (c.turn.ensures ∙ e))))) (λ o. c.if-turn-ne0.true)

pub returns-else-turn-ne0 : goal.returns-else-turn-ne0
returns-else-turn-ne0 c =
    let flat = same_bits (held c.turn.type_inv c.turn.ensures) refl c.if-turn-ne0.false in
    by_le (held c.dot.type_inv c.dot.ensures) refl (λ h. only_sound (λ e. h)) (λ o. only_complete o flat)
