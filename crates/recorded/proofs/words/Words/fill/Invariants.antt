-- `Words::fill` meets its contract: after so many words.
use Rattle.std.proofs.Common.{◌≡◌, ℕ, ◌<◌, length, get_or}
use Rattle.recorded.specs.Decimals.{place, all_numbers, number_in}
use Rattle.recorded.proofs.words.Words.fill.Given as goal

abbrev pub invariant-loop-x : goal.invariant-loop-x
invariant-loop-x g l =
    record {
      same_text : l.self.text ≡ l.fn.self.text;
      place : l.self.at ≡ place l.fn.self.text.now l.fn.self.at l.x-index;
      all : l.all ≡ all_numbers g.T.Number.told l.fn.self.text.now l.fn.self.at l.x-index;
      size : length l.out ≡ length l.fn.out;
      each : (k : ℕ) → k < l.x-index → get_or l.out k g.T.Number.NOUGHT
          ≡ number_in g.T.Number.told g.T.Number.NOUGHT l.fn.self.text.now l.fn.self.at k;
    }
