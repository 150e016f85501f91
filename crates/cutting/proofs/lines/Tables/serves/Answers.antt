-- `Tables::serves`: the sum as it is added up.
use Rattle.cutting.proofs.Rows.{sum_is}
use Rattle.cutting.proofs.Corners.{fits_is}
use Rattle.cutting.proofs.lines.Tables.serves.Goals as goal

pub returns : goal.returns
returns c =
    fits_is _ _ _ _ _ _ (sum_is _ _ c.saturating_add.ensures) (sum_is _ _ c.saturating_add-roads.ensures)
    c.cell.ensures c.cell-2.ensures c.cell-3.ensures
