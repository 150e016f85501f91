-- `drawing::segment::turn` meets its contract.
use mir.Syntax.{w64}
use Rattle.whole.specs.Bounds.{fit, loc}
use Rattle.drawing.proofs.Machine.{the_x, the_y, product, turn_held}
use Rattle.drawing.proofs.segment.turn.Goals as goal

pub overflow_mul-result : goal.overflow_mul-result
overflow_mul-result c = let h = c.requires in fit tt (product (the_x h.1) (the_x h.0) (the_y h.2) (the_y h.0))

pub overflow_mul-result-2 : goal.overflow_mul-result-2
overflow_mul-result-2 c = let h = c.requires in fit tt (product (the_y h.1) (the_y h.0) (the_x h.2) (the_x h.0))

pub overflow_sub-result-5 : goal.overflow_sub-result-5
overflow_sub-result-5 c = let h = c.requires in fit tt (turn_held h.0 h.1 h.2)

pub returns : goal.returns
returns c = let h = c.requires in (loc w64 tt (turn_held h.0 h.1 h.2)).is
