-- `desk::cut::search` meets its contract: what was found is told.
use mathlib.Core.Path.{refl}
use native.Mathlib.Omega.{arith}
use Rattle.desk.proofs.Cutting.{searched_marked, cut_0}
use Rattle.desk.proofs.cut.search.Goals as goal

pub returns : goal.returns
returns c =
    let s = c.requires in
    cut_0 (searched_marked s.0 (omega arith) c.in_ok-search.ensures refl) s.1 c.in_ok-tell.ensures
