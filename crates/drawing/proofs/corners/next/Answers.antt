-- `drawing::corners::next` meets its contract.
use mathlib.Core.Path.{sym, ◌∙◌}
use native.Mathlib.Numerals.{add-one}
use native.Mathlib.Omega.{arith}
use Rattle.outline.specs.Round.{next_last, next_inner}
use Rattle.drawing.proofs.corners.next.Goals as goal

pub returns-then-i-xy : goal.returns-then-i-xy
returns-then-i-xy c = record { is = sym (next_last _ _ (sym (add-one _) ∙ c.if-i-xy.true)); below = omega arith }

pub returns-else-i-xy : goal.returns-else-i-xy
returns-else-i-xy c =
    let i = c.args.i in
    record { is = add-one i ∙ sym (next_inner _ i (omega arith)); below = omega arith }
