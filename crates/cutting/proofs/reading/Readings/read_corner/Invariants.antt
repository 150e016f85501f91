-- `Readings::read_corner`: the corners below x have been read with y.
use mathlib.Core.Path.{◌≡◌}
use Rattle.cutting.proofs.Readings.{Reading}
use Rattle.cutting.proofs.reading.Readings.read_corner.Given as goal

abbrev pub invariant-loop-x : goal.invariant-loop-x
invariant-loop-x l =
    (l.self.n ≡ l.fn.self.n) × Reading l.first l.second l.self.cuts l.self.veil l.self.n l.y l.x
