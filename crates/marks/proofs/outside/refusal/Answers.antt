-- `marks::outside::refusal` meets its contract.
use Rattle.std.proofs.Common.{refl, ap, arith, replicate, subst, sym, ℕ}
use Rattle.desk.specs.Unique.{name}
use Rattle.marks.specs.Carry.{number}
use Rattle.marks.specs.Parts.{Outside}
use Rattle.marks.proofs.Numbers.{outside_of, spare_of}
use Rattle.marks.proofs.outside.refusal.Goals as goal

pub returns-in-Ok : goal.returns-in-Ok
returns-in-Ok c =
    outside_of _ c.args.lent (spare_of (replicate 310 0) c.min-len.result c.args.lent refl c.min-len.ensures) 0 10
    c.in-Ok.ensures.numbered
    (record { ten = λ _. refl; same = λ n. absurd (n refl) })

pub returns-in-Err : goal.returns-in-Err
returns-in-Err c =
    subst (λ (k : ℕ). Outside c.args.first.now c.args.second.now c.args.lent k) (sym (ap number c.from.ensures))
    (outside_of _ c.args.lent (spare_of (replicate 310 0) c.min-len.result c.args.lent refl c.min-len.ensures) _ _
    c.in-Err.ensures.numbered
    (record { ten = λ e. absurd (omega (arith, e, (name c.in-Err.refusal).1)); same = λ _. refl }))
