-- `drawing::parting::centre_sees` meets its contract.
use Rattle.std.specs.Prelude.{◌&&◌}
use Rattle.std.proofs.Common.{subst, sym, arith}
use Rattle.outline.specs.Way.{GrazedBy}
use Rattle.outline.proofs.Third.{first_shorter, second_shorter}
use Rattle.drawing.specs.Table.{PairSettled}
use Rattle.drawing.proofs.Settling.{grazed_by, parts_settled}
use Rattle.drawing.proofs.parting.+centre_sees.Goals as goal

pub centre_sees-first-requires : goal.centre_sees-first-requires
centre_sees-first-requires t c =
    let k = c.requires.corners in
    let g : GrazedBy c.args.ring.xy.now c.args.i c.args.j c.from-k.result =
    rw c.from-k.ensures (grazed_by c.args.cells.now k.0 k.1 c.requires.coded c.if-told-lt-GRAZED.false) in
    let less = first_shorter c.args.ring.xy.now c.args.ring.sound.simple c.args.i c.args.j _ k.0 k.1 g in
    (rw c.decreases at less, (c.requires.coded, (k.0, g.below)))

pub centre_sees-second-requires : goal.centre_sees-second-requires
centre_sees-second-requires t c =
    let k = c.requires.corners in
    let g : GrazedBy c.args.ring.xy.now c.args.i c.args.j c.from-k.result =
    rw c.from-k.ensures (grazed_by c.args.cells.now k.0 k.1 c.requires.coded c.if-told-lt-GRAZED.false) in
    let less = second_shorter c.args.ring.xy.now c.args.ring.sound.simple c.args.i c.args.j _ k.0 k.1 g in
    let first = c.centre_sees-first.ensures.settling in (
      rw c.decreases at less,
      (first.coded, (g.below, k.1)),
    )

pub returns : goal.returns
returns t c =
    let s = c.args in
    let k = c.requires.corners in
    let g : GrazedBy s.ring.xy.now s.i s.j c.from-k.result =
    rw c.from-k.ensures (grazed_by s.cells.now k.0 k.1 c.requires.coded c.if-told-lt-GRAZED.false) in
    let first = c.centre_sees-first in
    let second = c.centre_sees-second in
    let done = parts_settled c.args.ring.sound k.0 k.1 g s.cells.now _ _ (omega arith) first.ensures second.ensures in
    subst (λ w. PairSettled s.ring.xy.now s.i s.j s.cells.now w (first.result && second.result))
    (sym (rw c.from.ensures at c.put.ensures)) done
