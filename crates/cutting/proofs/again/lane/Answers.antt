-- `again::lane`: the lane is right from b on.
use mathlib.Core.Path.{refl}
use lib.ListN.{length-set}
use native.Mathlib.Omega.{arith}
use Rattle.cutting.proofs.Rows.{sum_is, blank}
use Rattle.cutting.proofs.Relaid.{laning_none, laning_more, laning_at, laning_end}
use Rattle.cutting.proofs.again.lane.Goals as goal

pub loop-b-init : goal.loop-b-init
loop-b-init c = (
  omega arith,
  omega arith,
  simp length-set refl,
  laning_none c.args.col.now (omega arith) c.requires.1 (omega arith) refl blank c.cell-end.ensures c.put.ensures,
)

pub loop-b-preserved : goal.loop-b-preserved
loop-b-preserved c =
    let loop = c.loop-b in (
      omega arith,
      omega arith,
      simp length-set loop.invariant.2,
      laning_more c.args.readings.now.veils (omega arith) (omega arith) c.requires.1 loop.invariant.1 loop.invariant.2
          (laning_at (omega arith) loop.invariant.3) c.reach.ensures c.cell.ensures
          (sum_is _ _ c.saturating_add-v.ensures) c.put-in-loop-b.ensures,
    )

pub returns : goal.returns
returns c =
    laning_end c.args.col.now c.cell-end.result (omega arith) (omega arith) c.put.ensures c.loop-b.invariant.3
