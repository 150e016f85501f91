-- `checker::nested::is_cutting`: what the two tables tell of 22.
use Rattle.std.proofs.Common.{rules, sym, ◌∙◌}
use Rattle.checker.proofs.Passes.{fitting_all}
use Rattle.checker.proofs.Verdicts.{readable}
use Rattle.checker.proofs.Cuttings.{closed_twice, none_whole, all_told}
use Rattle.checker.proofs.nested.is_cutting.Goals as goal
use Rattle.checker.proofs.nested.is_cutting.Goals.{then-not-mark_all-via-then-not-mark_all, then-not-mark_all-via-else-not-mark_all+then-not-has}

pub mark_all-requires : goal.mark_all-requires
mark_all-requires c = readable c.requires.2

pub returns-then-not-mark_all : goal.returns-then-not-mark_all
returns-then-not-mark_all c =
    let r = c.requires in
    let m = rw (c.none.ensures, c.none-2.ensures) at c.mark_all.ensures in
    elim c.then-not-mark_all.branch [
      | then-not-mark_all-via-then-not-mark_all w ↦ closed_twice r.0 r.1 m w.if-not-mark_all.true
      | then-not-mark_all-via-else-not-mark_all+then-not-has w ↦
          none_whole r.0 r.1 m w.if-not-mark_all.false (sym w.has.ensures ∙ w.if-not-has.true)
    ]

pub returns : goal.returns
returns c =
    let r = c.requires in
    let m = rw (c.none.ensures, c.none-2.ensures) at c.mark_all.ensures in
    let f = fitting_all c.mark_all.new.self.closings c.add.new.self (record { rest = c.args.list }) c.all.new.self
    (readable r.2) c.all.ensures.ran
    (λ x q h k. search rules) in
    all_told r.0 r.1 m c.if-not-mark_all.false (sym c.has.ensures ∙ c.if-not-has.false) (rw c.add.ensures at f)
