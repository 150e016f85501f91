-- `Tables::ready`: the lane of x is not needed, or is filled.
use mathlib.Core.Path.{sym, ◌∙◌}
use Rattle.cutting.proofs.Relaid.{lanes_not, lanes_more}
use Rattle.cutting.proofs.lines.Tables.ready.Goals as goal

pub returns-then-serves : goal.returns-then-serves
returns-then-serves c =
    let pre = c.requires in
    lanes_more pre.in_range.1 pre.in_range.2 c.lane.ensures pre.lanes

pub returns-else-serves : goal.returns-else-serves
returns-else-serves c =
    lanes_not (sym c.serves.ensures ∙ c.if-serves.false)
    c.requires.lanes
