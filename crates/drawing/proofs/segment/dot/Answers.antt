-- `drawing::segment::dot` meets its contract.
use mir.Syntax.{w64}
use Rattle.whole.specs.Bounds.{fit, loc, plus}
use Rattle.drawing.proofs.Machine.{the_x, the_y, product}
use Rattle.drawing.proofs.segment.dot.Goals as goal

pub overflow_mul-result : goal.overflow_mul-result
overflow_mul-result c = let h = c.requires in fit tt (product (the_x h.1) (the_x h.0) (the_x h.2) (the_x h.0))

pub overflow_mul-result-2 : goal.overflow_mul-result-2
overflow_mul-result-2 c = let h = c.requires in fit tt (product (the_y h.1) (the_y h.0) (the_y h.2) (the_y h.0))

pub overflow_add-result : goal.overflow_add-result
overflow_add-result c =
    let h = c.requires in
    fit tt (plus
    (loc w64 tt (product (the_x h.1) (the_x h.0) (the_x h.2) (the_x h.0)))
    (loc w64 tt (product (the_y h.1) (the_y h.0) (the_y h.2) (the_y h.0))))

pub returns : goal.returns
returns c =
    let h = c.requires in
    (loc w64 tt (plus
    (loc w64 tt (product (the_x h.1) (the_x h.0) (the_x h.2) (the_x h.0)))
    (loc w64 tt (product (the_y h.1) (the_y h.0) (the_y h.2) (the_y h.0))))).is
