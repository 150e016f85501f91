-- `Tables::all_ready`: the lanes of the centres below x that serve are there.
use Rattle.cutting.specs.Held.{LanesTo}
use Rattle.cutting.proofs.lines.Tables.all_ready.Given as goal

abbrev pub invariant-loop-x : goal.invariant-loop-x
invariant-loop-x l = LanesTo l.readings l.self l.col l.i l.j l.x
