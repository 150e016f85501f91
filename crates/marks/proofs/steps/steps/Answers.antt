-- `marks::steps::steps` meets its contract.
use Rattle.std.proofs.Common.{to_z-of_z, w64, ◌∙◌}
use borrow.Author.Rules.{sfits_of}
use Rattle.marks.proofs.Rounding.{rounded}
use Rattle.marks.proofs.steps.steps.Goals as goal

pub returns : goal.returns
returns c =
    let n = to_z-of_z c.ranges.n in
    let d = to_z-of_z c.ranges.d in
    rounded c.requires
    (to_z-of_z {w = w64} (sfits_of c.div_euclid.type_inv) ∙ rw (n, d) at c.div_euclid.ensures)
    (to_z-of_z {w = w64} (sfits_of c.rem_euclid.type_inv) ∙ rw (n, d) at c.rem_euclid.ensures.value)
    d
