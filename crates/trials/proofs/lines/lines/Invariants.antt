-- Of the calls so far, as many at most were not right: none where each is, all where none is.
use Rattle.std.proofs.Common.{◌≡◌, ◌≢◌, ◌≤◌, true, Some}
use denote.Param.Always.{always_mut}
use Rattle.trials.specs.Steps.{Each}
use Rattle.trials.proofs.lines.lines.Given as goal

abbrev pub invariant-loop-line : goal.invariant-loop-line
invariant-loop-line g l =
    always_mut g.F.FnMut l.tried
    × (l.tally.calls ≡ l._line)
    × (l._line ≡ 0 → (l.words.at ≡ 0) × (l.words.text.now ≡ l.text))
    × (l.tally.differences ≤ l.tally.calls)
    × (Each (goal.F-step g) (λ r. r ≡ Some true) → l.tally.differences ≡ 0)
    × (Each (goal.F-step g) (λ r. r ≢ Some true) → l.tally.differences ≡ l.tally.calls)
