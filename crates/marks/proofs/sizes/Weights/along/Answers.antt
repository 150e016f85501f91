-- `marks::sizes::Weights::along` meets its contract.
use Rattle.std.proofs.Common.{w64}
use Rattle.whole.specs.Bounds.{fit, loc}
use Rattle.marks.proofs.Sums.{two, three, share, told_as}
use Rattle.marks.proofs.sizes.Weights.along.Goals as goal

pub overflow_add-n : goal.overflow_add-n
overflow_add-n c = let f = c.ranges in fit (tt {0}) (two c.args.self c.requires f.i f.j f.k)

pub overflow_add-n-2 : goal.overflow_add-n-2
overflow_add-n-2 c = let f = c.ranges in fit (tt {0}) (three c.args.self c.requires f.i f.j f.k)

pub steps-requires : goal.steps-requires
steps-requires c =
    let f = c.ranges in
    share c.args.self (loc w64 (tt {0}) (three c.args.self c.requires f.i f.j f.k))

pub returns : goal.returns
returns c =
    let f = c.ranges in
    told_as c.args.self (loc w64 (tt {0}) (three c.args.self c.requires f.i f.j f.k)).is c.steps.ensures
