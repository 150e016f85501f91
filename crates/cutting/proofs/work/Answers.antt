-- `work`: the tables, and the set from them.
use mathlib.Core.Path.{sym, ◌∙◌}
use Rattle.cutting.proofs.Finds.{finished, finds_none, finds_some}
use Rattle.cutting.proofs.work.Goals as goal

pub returns-then-cell : goal.returns-then-cell
returns-then-cell c =
    let r = c.args.readings.now in
    finds_none r.fewest r.most c.solve.ensures r.veils (sym c.cell.ensures ∙ c.if-cell.true)

pub trace-requires : goal.trace-requires
trace-requires c =
    let r = c.args.readings.now in
    finished r.fewest r.most c.solve.ensures (λ e. c.if-cell.false (c.cell.ensures ∙ e))

pub returns : goal.returns
returns c = finds_some c.trace.ensures
