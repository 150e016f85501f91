-- `Tables::shut`: the sums as they are added up.
use native.Mathlib.Omega.{arith}
use Rattle.cutting.proofs.Values.{shut_is}
use Rattle.cutting.proofs.lines.Tables.shut.Goals as goal

pub returns : goal.returns
returns c =
    record {
      mid = c.through-m.result;
      least = c.through-m.ensures;
      is =
          shut_is _ c.saturating_add-a.result c.saturating_add-b.result _ _ c.cell.result
          c.cell-2.result _ _ _ _ _ (omega (arith, c.saturating_add.ensures)) c.min-2.ensures
          c.min.ensures (omega (arith, c.saturating_add-a.ensures))
          (omega (arith, c.saturating_add-b.ensures)) (omega (arith, c.cell.ensures))
          (omega (arith, c.cell-2.ensures));
    }
