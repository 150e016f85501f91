-- `Tables::every`: what holds of all in the range.
use Prim.Native.Nat.{suc}
use mathlib.Core.Path.{◌≡◌, refl}
use Rattle.std.proofs.Common.{tests, arith}
use Rattle.std.proofs.lemmas.Iterator.{cases_from_all, YieldsList-from_range}
use Rattle.cutting.specs.Tracing.{next_in}
use Rattle.cutting.proofs.Corners.{every_found}
use Rattle.cutting.proofs.lines.Tables.every.Goals as goal

pub returns : goal.returns
returns c =
    let next = next_in c.args.self.now.val c.args.self.now.left c.args.col.now c.args.x c.args.j in
    every_found next c.args.i c.args.j c.all.result _
    (cases_from_all _ _ _ (λ a. next a ≡ suc a) (λ a. next a ≡ suc a → ⊥) c.all.ensures.ran
    (YieldsList-from_range c.args.i c.args.j _ refl refl) (λ x q k. grind (arith, tests))
    (λ x q k. grind (arith, tests)))
