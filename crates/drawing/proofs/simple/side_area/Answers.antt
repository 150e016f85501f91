-- `drawing::simple::side_area` meets its contract.
use mir.Syntax.{w64}
use Rattle.whole.specs.Bounds.{fit, loc, less, times, bound}
use Rattle.drawing.proofs.Machine.{the_x, the_y}
use Rattle.drawing.proofs.simple.side_area.Goals as goal

pub overflow_sub-result : goal.overflow_sub-result
overflow_sub-result c =
    let h = c.requires in
    fit tt (less (loc w64 tt (times (the_x h.0) (the_y h.1))) (loc w64 tt (times (the_x h.1) (the_y h.0))))

pub returns : goal.returns
returns c =
    let h = c.requires in
    let r = loc w64 tt
    (less (loc w64 tt (times (the_x h.0) (the_y h.1))) (loc w64 tt (times (the_x h.1) (the_y h.0)))) in
    record { is = r.is; small = bound r }
