-- `marks::walk::Poses::land` meets its contract.
use Rattle.std.proofs.Common.{sym, subst}
use Rattle.marks.specs.Parts.{point, wedge_of, Tried}
use Rattle.marks.proofs.Wedges.{missed, landed}
use Rattle.marks.proofs.walk.Poses.land.Goals as goal

pub returns-in_err-weights : goal.returns-in_err-weights
returns-in_err-weights c =
    let s = c.args.self.now in
    subst (Tried s.first.now s.second.now (point s.mark) (wedge_of c.args.wedge)) (sym c.from_residual.ensures)
    (missed _ s.second.now _ (wedge_of c.args.wedge) c.triangle.ensures c.in_err-weights.ensures)

pub returns : goal.returns
returns c =
    landed _ _ _ (wedge_of c.args.wedge) c.triangle.ensures c.triangle-2.ensures c.in_ok-weights.weights
    c.in_ok-weights.ensures c.place.result c.place.ensures
