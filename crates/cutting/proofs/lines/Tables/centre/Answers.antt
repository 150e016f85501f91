-- `Tables::centre`: the lowest takes every corner, or the pick is made of all.
use native.Mathlib.Omega.{arith}
use Rattle.cutting.proofs.Corners.{pick_there}
use mathlib.Core.Path.{◌∙◌}
use Rattle.cutting.proofs.Traced.{picked_as, lowest_picked}
use Rattle.cutting.proofs.Relaid.{lanes_lowest}
use Rattle.cutting.proofs.lines.Tables.centre.Goals as goal

pub returns-then-every : goal.returns-then-every
returns-then-every c =
    λ pairs t h.
    lowest_picked t h _ _ c.lowest-x.ensures c.lane.ensures.lane_is
    (c.every.ensures c.if-every.true)

pub all_ready-requires : goal.all_ready-requires
all_ready-requires c = record {
  in_range = (omega (arith, c.lowest-x.ensures.from), omega (arith, c.lowest-x.ensures.to), c.requires.1);
  lanes = lanes_lowest c.lowest-x.ensures c.lane.ensures;
}

pub returns : goal.returns
returns c =
    λ pairs t h.
    let p = picked_as t h _ c.all_ready.ensures c.pick.ensures in
    rw (c.unwrap_or.ensures ∙ pick_there c.pick.result p.0 c.requires.1) p
