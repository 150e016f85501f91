-- `frame`: the readings, and the search by them.
use native.Mathlib.Omega.{arith}
use Rattle.cutting.proofs.Readings.{veil_new}
use Rattle.cutting.proofs.Answers.{searches_none, searches_found, searches_as, served_as}
use Rattle.cutting.proofs.frame.Goals as goal

pub invariant_of-readings : goal.invariant_of-readings
invariant_of-readings c = record { fewest = c.requires.fewest; most = c.requires.most; veils = veil_new }

pub returns-then-find : goal.returns-then-find
returns-then-find c =
    let e = c.read.ensures.same in
    searches_as e
    (searches_found c.read.ensures.after (served_as e c.requires) (omega arith) c.find.ensures c.if-find.true)

pub returns-else-find : goal.returns-else-find
returns-else-find c =
    let e = c.read.ensures.same in
    searches_as e
    (searches_none c.read.ensures.after (served_as e c.requires) c.find.ensures c.if-find.false)
