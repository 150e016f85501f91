-- `numbers::digits` meets its contract.
use Rattle.std.proofs.Common.{◌≡◌, drop, Some}
use Rattle.recorded.specs.Digits.{number}
use Rattle.recorded.proofs.numbers.digits.Given as goal

abbrev pub invariant-loop-c : goal.invariant-loop-c
invariant-loop-c l = number (Some l.m) (drop l.c-index l.word) ≡ number (Some 0) l.word
