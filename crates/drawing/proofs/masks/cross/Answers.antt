-- `drawing::masks::cross` meets its contract.
use mir.Syntax.{w64}
use Rattle.whole.specs.Bounds.{fit, loc, less, times}
use Rattle.drawing.proofs.Machine.{x_away, y_away}
use Rattle.drawing.proofs.masks.cross.Goals as goal

pub overflow_sub-result : goal.overflow_sub-result
overflow_sub-result c =
    let h = c.requires in
    fit tt
    (less (loc w64 tt (times (x_away h.0) (y_away h.1))) (loc w64 tt (times (y_away h.0) (x_away h.1))))

pub returns : goal.returns
returns c =
    let h = c.requires in
    (loc w64 tt
    (less (loc w64 tt (times (x_away h.0) (y_away h.1)))
    (loc w64 tt (times (y_away h.0) (x_away h.1))))).is
