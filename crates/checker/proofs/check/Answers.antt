-- `checker::check`: what the bytes bring, by the cells of two sound drawings.
use Rattle.std.proofs.Common.{refl}
use Rattle.checker.proofs.Verdicts.{by_cells}
use Rattle.checker.proofs.check.Goals as goal

pub returns : goal.returns
returns c =
    let s = c.in_ok-sight.ensures in
    by_cells s.checks refl refl refl s.first_told s.second_told c.of_bytes.ensures
