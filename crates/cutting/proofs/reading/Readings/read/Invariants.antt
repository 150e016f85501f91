-- `Readings::read`: the corners below y have been read.
use mathlib.Core.Path.{◌≡◌}
use Rattle.cutting.specs.Rows.{Read}
use Rattle.cutting.proofs.reading.Readings.read.Given as goal

abbrev pub invariant-loop-y : goal.invariant-loop-y
invariant-loop-y l = (l.self.n ≡ l.fn.self.n) × Read l.first l.second l.self.cuts l.self.veil l.self.n l.y
