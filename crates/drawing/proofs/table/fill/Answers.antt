-- `drawing::table::fill` meets its contract: blank, then the neighbours, lines that begin with a side, all rows; and
-- third corners are settled.
use Rattle.outline.specs.Drawing.{corners}
use Rattle.drawing.specs.Table.{Marked, RowsDone}
use Rattle.drawing.proofs.Settling.{rows_coded, settled_seen}
use Rattle.drawing.proofs.table.fill.Goals as goal

pub settle-requires : goal.settle-requires
settle-requires c =
    let marked : let d = c.args in
    Marked d.ring.xy.now (RowsDone d.ring.xy.now (corners d.ring.xy.now)) d.cells.now c.rows.new.cells =
    c.rows.ensures.grown _ (c.beginnings.ensures.grown _
    (c.neighbours.ensures.grown _ c.blank.ensures)) in
    let m = marked in
    rows_coded m

pub returns : goal.returns
returns c =
    let marked : let d = c.args in
    Marked d.ring.xy.now (RowsDone d.ring.xy.now (corners d.ring.xy.now)) d.cells.now c.rows.new.cells =
    c.rows.ensures.grown _ (c.beginnings.ensures.grown _
    (c.neighbours.ensures.grown _ c.blank.ensures)) in
    settled_seen c.args.ring.sound marked c.settle.ensures
