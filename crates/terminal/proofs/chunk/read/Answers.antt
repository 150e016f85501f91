-- `read`: what each report of `feed` does to `So`.
use Rattle.std.proofs.Common.{ap, refl, sym, arith, length-take-le}
use Rattle.std.specs.Prelude.{Ok}
use Rattle.frames.specs.Takes.{feed_pair_takes}
use Rattle.terminal.proofs.Pairs.{so_begin, so_more, so_room, so_pair, so_fault}
use Rattle.terminal.proofs.chunk.read.Goals as goal

pub loop-next-init : goal.loop-next-init
loop-next-init c = so_begin

pub returns-in-Ok-More : goal.returns-in-Ok-More
returns-in-Ok-More c = so_more c.loop-next.invariant c.requires c.in-Ok-More.ensures.exact
    (ap Ok c.in-Ok-More.field-0-is)

pub slice_bounds-reply-end : goal.slice_bounds-reply-end
slice_bounds-reply-end c = (feed_pair_takes _ _ _ _ _ c.in-Ok-Pair.ensures.exact
    (ap Ok c.in-Ok-Pair.field-0-is)).first_fits

pub slice_bounds-reply-end-in-Ok-Pair : goal.slice_bounds-reply-end-in-Ok-Pair
slice_bounds-reply-end-in-Ok-Pair c =
    let t = feed_pair_takes _ _ _ _ _ c.in-Ok-Pair.ensures.exact
    (ap Ok c.in-Ok-Pair.field-0-is) in
    sym (length-take-le _ _ t.first_fits)

pub slice_bounds-reply-end-in-Ok-Pair-2 : goal.slice_bounds-reply-end-in-Ok-Pair-2
slice_bounds-reply-end-in-Ok-Pair-2 c = (feed_pair_takes _ _ _ _ _ c.in-Ok-Pair.ensures.exact
    (ap Ok c.in-Ok-Pair.field-0-is)).second_fits

pub slice_bounds-reply-end-in-Ok-Pair-3 : goal.slice_bounds-reply-end-in-Ok-Pair-3
slice_bounds-reply-end-in-Ok-Pair-3 c =
    let t = feed_pair_takes _ _ _ _ _ c.in-Ok-Pair.ensures.exact
    (ap Ok c.in-Ok-Pair.field-0-is) in
    sym (length-take-le _ _ t.second_fits)

pub reply-len-requires : goal.reply-len-requires
reply-len-requires c = so_room c.loop-next.invariant c.requires c.in-Ok-Pair.ensures.exact
    (ap Ok c.in-Ok-Pair.field-0-is)

pub loop-next-smaller : goal.loop-next-smaller
loop-next-smaller c =
    let t = feed_pair_takes _ _ _ _ _ c.in-Ok-Pair.ensures.exact
    (ap Ok c.in-Ok-Pair.field-0-is) in
    omega (arith, t.on, t.within)

pub loop-next-preserved : goal.loop-next-preserved
loop-next-preserved c =
    rw c.start-r.ensures
    (so_pair c.loop-next.invariant c.requires c.in-Ok-Pair.ensures.exact
    (ap Ok c.in-Ok-Pair.field-0-is) c.reply-len.ensures (omega arith))

pub returns-in-Err : goal.returns-in-Err
returns-in-Err c =
    so_fault c.loop-next.invariant c.requires c.in-Err.ensures.exact refl c.fault_line.ensures
