-- `again::reach`: the least of the steps to corners below c.
use Rattle.cutting.proofs.Relaid.{Reaching}
use Rattle.cutting.proofs.again.reach.Given as goal

abbrev pub invariant-loop-c : goal.invariant-loop-c
invariant-loop-c l = Reaching l.val l.g l.b l.c l.m
