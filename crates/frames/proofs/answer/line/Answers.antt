-- `line`: no room, and the line laid in three stores.
use Rattle.std.proofs.Common.{refl, arith}
use Rattle.frames.proofs.Writing.{line_written, line_refused}
use Rattle.frames.proofs.answer.line.Goals as goal

pub returns-then-rest-saturating_sub : goal.returns-then-rest-saturating_sub
returns-then-rest-saturating_sub c =
    let a = c.args in
    line_refused a.head.now a.rest.now a.out.now a.at (omega arith)

pub returns : goal.returns
returns c =
    let a = c.args in
    line_written a.head.now a.rest.now a.out.now a.at (omega arith) refl refl (omega arith) (omega arith)
    c.put_all.ensures c.put_all-2.ensures
