-- `Words::is_done` meets its contract.
use Rattle.std.specs.Prelude.{leb, length}
use Rattle.std.proofs.Common.{refl, ap, arith}
use Rattle.recorded.proofs.Ends.{start_fits, start_is}
use Rattle.recorded.proofs.words.Words.is_done.Goals as goal

pub overflow_add-self : goal.overflow_add-self
overflow_add-self c =
    let words = c.args.self.now in
    omega (arith, start_fits words.text.now words.at _ c.rest.ensures (omega arith) (omega arith) _ c.blanks.ensures)

pub returns-clause-value : goal.returns-clause-value
returns-clause-value c =
    let words = c.args.self.now in
    ap (leb (length words.text.now)) (start_is words.text.now words.at _ c.rest.ensures _ c.blanks.ensures)

pub returns-clause-place : goal.returns-clause-place
returns-clause-place c =
    let words = c.args.self.now in
    record { same_text = refl; place = start_is words.text.now words.at _ c.rest.ensures _ c.blanks.ensures }
