-- `marks::sizes::Weights::place` meets its contract.
use Rattle.std.proofs.Common.{subst}
use Rattle.drawing.proofs.Machine.{the_x, the_y}
use Rattle.marks.specs.Steps.{InSteps}
use Rattle.marks.specs.Parts.{sum}
use Rattle.marks.proofs.Points.{close}
use Rattle.marks.proofs.sizes.Weights.place.Goals as goal

pub returns : goal.returns
returns c =
    let w = c.args.self in
    let p = close c.args.t.centre in
    let q = close c.args.t.from in
    let s = close c.args.t.to in (
      subst (λ T. T) (λ l. InSteps (sum w ((the_x p).is l) ((the_x q).is l) ((the_x s).is l)) w.whole c.along.result)
          c.along.ensures,
      subst (λ T. T) (λ l. InSteps (sum w ((the_y p).is l) ((the_y q).is l) ((the_y s).is l)) w.whole c.along-2.result)
          c.along-2.ensures,
    )
