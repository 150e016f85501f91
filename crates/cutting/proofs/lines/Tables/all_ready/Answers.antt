-- `Tables::all_ready`: the lanes of the centres below x that serve are there.
use native.Mathlib.Omega.{arith}
use Rattle.cutting.proofs.Relaid.{lanes_at}
use Rattle.cutting.proofs.lines.Tables.all_ready.Goals as goal

pub loop-x-init : goal.loop-x-init
loop-x-init c = c.requires.lanes

pub ready-requires : goal.ready-requires
ready-requires c = record {
  in_range = (omega arith, omega arith, c.requires.in_range.2);
  lanes = c.loop-x.invariant;
}

pub returns : goal.returns
returns c = lanes_at (omega arith) c.loop-x.invariant
