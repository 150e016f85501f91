-- `Tables::seek`: no corner before the one that is found costs what is looked for.
use mathlib.Core.Path.{◌≡◌}
use native.Mathlib.Omega.{arith}
use Rattle.std.proofs.Common.{rules, tests}
use Rattle.std.proofs.lemmas.Iterator.{first_from_Range}
use Rattle.rules.specs.Columns.{costs}
use Rattle.rules.specs.Cells.{cell}
use Rattle.cutting.specs.Rows.{none}
use Rattle.cutting.proofs.Corners.{sought_found}
use Rattle.cutting.proofs.lines.Tables.seek.Goals as goal

pub returns : goal.returns
returns c =
    let f = costs none (cell c.args.self.now.val) (cell c.args.side.now) c.args.x c.args.c in
    let v = cell c.args.side.now c.args.c c.args.x in
    sought_found f v c.args.c c.args.t c.find.result (omega arith) c.unwrap_or.ensures
    (first_from_Range _ _ _ _ (λ k. f k ≡ v) (λ k. ¬ (f k ≡ v)) c.find.ensures.ran
    (λ x q k. search (rules, tests)) (λ x q k. search (rules, tests)))
