-- `marks::wedge::turn` meets its contract.
use Rattle.std.proofs.Common.{w64}
use Rattle.whole.specs.Bounds.{fit, loc, bound}
use Rattle.drawing.proofs.Machine.{the_x, the_y, product, turn_held}
use Rattle.marks.proofs.Points.{close}
use Rattle.marks.proofs.wedge.turn.Goals as goal

pub overflow_mul-result : goal.overflow_mul-result
overflow_mul-result c =
    let s = c.args in
    fit tt (product (the_x (close s.b)) (the_x (close s.a)) (the_y (close s.c)) (the_y (close s.a)))

pub overflow_mul-result-2 : goal.overflow_mul-result-2
overflow_mul-result-2 c =
    let s = c.args in
    fit tt (product (the_y (close s.b)) (the_y (close s.a)) (the_x (close s.c)) (the_x (close s.a)))

pub overflow_sub-result-5 : goal.overflow_sub-result-5
overflow_sub-result-5 c = let s = c.args in fit tt (turn_held (close s.a) (close s.b) (close s.c))

pub returns-clause-is : goal.returns-clause-is
returns-clause-is c = let s = c.args in (loc w64 tt (turn_held (close s.a) (close s.b) (close s.c))).is

pub returns-clause-small : goal.returns-clause-small
returns-clause-small c = let s = c.args in bound (loc w64 tt (turn_held (close s.a) (close s.b) (close s.c)))
