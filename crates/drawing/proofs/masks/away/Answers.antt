-- `drawing::masks::away` meets its contract.
use mathlib.Core.Path.{◌∙◌}
use lib.IntN.{◌-ℤ◌}
use mir.Syntax.{w64}
use Rattle.whole.specs.Bounds.{loc, less, bound}
use Rattle.drawing.proofs.Machine.{the_x, the_y}
use Rattle.drawing.proofs.masks.away.Goals as goal

pub returns : goal.returns
returns c =
    let to = c.corner-c.ensures in
    let at = c.corner-a.ensures in
    let x = loc w64 tt (less (the_x to.close) (the_x at.close)) in
    let y = loc w64 tt (less (the_y to.close) (the_y at.close)) in
    record {
      is_x = x.is ∙ (λ i. (to.is i).x -ℤ (at.is i).x);
      is_y = y.is ∙ (λ i. (to.is i).y -ℤ (at.is i).y);
      far = record { far_x = bound x; far_y = bound y };
    }
