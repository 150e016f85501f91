-- `drawing::simple::apart` meets its contract: side i is apart from every side before it.
use mathlib.Core.Path.{◌≡◌, refl}
use Prim.Native.Nat.{◌-◌}
use Rattle.std.proofs.lemmas.Iterator.{cases_from_all, YieldsList-from_range}
use borrow.Author.Tests.{tests}
use Rattle.std.proofs.Common.{rules, arith}
use Rattle.whole.specs.Masks.{Digit}
use Rattle.outline.specs.Drawing.{after, SidesShare}
use Rattle.outline.specs.Tells.{as_well, if_yes, if_no, eq_tells}
use Rattle.drawing.proofs.Machine.{range_tells, digit}
use Rattle.drawing.proofs.Sides.{apart_tells}
use Rattle.drawing.proofs.simple.apart.Goals as goal

pub returns : goal.returns
returns c =
    let d = c.args.xy.now in
    let i = c.args.i in
    let a = c.from-first.result in
    let b = c.saturating_sub.result in
    let first : Digit a (after d i ≡ 0) =
    rw c.from-first.ensures (digit (as_well (eq_tells _ _) (λ e. omega (arith, c.next.ensures.is))
    (λ e. omega (arith, c.next.ensures.is)))) in
    apart_tells d c.requires.1 first
    (as_well (range_tells a (b - a)
    (cases_from_all _ _ _ (λ j. ¬ SidesShare d i j) (λ j. ¬ ¬ SidesShare d i j) c.all.ensures.ran
    (YieldsList-from_range a b (b - a) refl refl)
    (λ x q k. search (rules, tests, if_yes)) (λ x q k. search (rules, tests, if_no))))
    (λ f j m l. f j m (omega arith)) (λ f j m l. f j m (omega arith)))
