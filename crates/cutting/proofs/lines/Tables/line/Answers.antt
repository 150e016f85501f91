-- `Tables::line`: the stores make the line done.
use native.Mathlib.Omega.{arith}
use Rattle.cutting.proofs.Fill.{filling_stored}
use Rattle.cutting.proofs.lines.Tables.line.Goals as goal

pub returns : goal.returns
returns c =
    filling_stored c.requires.in_range c.args.readings.now.veils c.requires.filling c.sweep-first.ensures
    c.value-v.ensures c.finish.ensures (omega (arith, c.requires.filling.col_size)) c.put.ensures
    c.cell.ensures c.put-2.ensures c.cell-2.ensures
    c.put-3.ensures
