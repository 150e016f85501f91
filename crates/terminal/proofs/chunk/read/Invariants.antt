-- `read`: the invariant is `So` of `Pairs`; what is left of the chunk falls with each pair.
use Rattle.std.proofs.Common.{◌-◌, length}
use Rattle.terminal.proofs.Pairs.{So}
use Rattle.terminal.proofs.chunk.read.Given as goal

abbrev pub invariant-loop-next : goal.invariant-loop-next
invariant-loop-next l =
    So l.initial.r l.initial.first l.initial.second l.chunk l.initial.out l.first l.second l.out l.r l.at l.len

abbrev pub decreases-loop-next : goal.decreases-loop-next
decreases-loop-next l = length l.chunk - l.at
