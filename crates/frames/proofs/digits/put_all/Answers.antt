-- `put_all`: after i bytes their digits stand in the buffer, two for each.
use Rattle.std.proofs.Common.{arith, length-set}
use Rattle.frames.proofs.Writing.{put_more, put_whole}
use Rattle.frames.proofs.digits.put_all.Goals as goal

pub loop-i-preserved : goal.loop-i-preserved
loop-i-preserved c = (
  simp length-set (omega arith),
  put_more c.args.bytes.now c.args.out.now c.loop-i.i c.loop-i-test.true c.loop-i.invariant.1 c.digit_of.ensures
      c.digit_of-in-loop-i.ensures,
)

pub returns : goal.returns
returns c =
    put_whole c.args.bytes.now c.args.out.now c.loop-i.i c.loop-i-test.false c.requires c.loop-i.invariant.1
