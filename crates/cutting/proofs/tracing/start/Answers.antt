-- `tracing::start`: the whole range alone.
use mathlib.Core.Path.{◌∙◌, ap}
use Prim.Native.Nat.{ℕ}
use lib.ListN.{replicate}
use Rattle.std.proofs.Common.{rules}
use Rattle.cutting.proofs.Marking.{started}
use Rattle.cutting.proofs.tracing.start.Goals as goal

pub returns : goal.returns
returns c =
    started c.requires.0 c.requires.1
    (c.fill.ensures.after (λ y e. search rules) ∙ ap (λ (k : ℕ). replicate k 0) c.told-pairs) c.put.ensures
