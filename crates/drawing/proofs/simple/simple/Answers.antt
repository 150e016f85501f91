-- `drawing::simple::simple` meets its contract: every side stands.
use mathlib.Core.Path.{refl}
use Rattle.std.proofs.lemmas.Iterator.{cases_from_all, YieldsList-from_range}
use borrow.Author.Tests.{tests}
use Rattle.std.proofs.Common.{rules, arith}
use Rattle.outline.specs.Drawing.{corners}
use Rattle.outline.specs.Sides.{SideStands, simple_of, stands_of}
use Rattle.outline.specs.Tells.{as_well, if_yes, if_no}
use Rattle.drawing.proofs.Machine.{all_tell}
use Rattle.drawing.proofs.simple.simple.Goals as goal

pub returns : goal.returns
returns c =
    let d = c.args.xy.now in
    as_well (all_tell (corners d)
    (cases_from_all _ _ _ (SideStands d) (λ i. ¬ SideStands d i) c.all.ensures.ran
    (YieldsList-from_range 0 (corners d) (corners d) refl (omega arith))
    (λ x q k. search (rules, tests, if_yes)) (λ x q k. search (rules, tests, if_no)))) simple_of stands_of
