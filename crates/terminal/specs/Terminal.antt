-- What the desk program writes for a whole input: document 01, "The frames on the wire". To be believed, with what
-- `frames` says that an input tells (`Frames`, `events`) and what `desk` says comes back for a pair (`Answer`,
-- `Answers`).
use Rattle.std.specs.Prelude.{◌≡◌, List, [], ◌∷◌, ◌++◌, ℕ, zero, suc, ℤ, length, take}
use Rattle.frames.specs.Frames.{Event, pair, fault, events, answer_line, refusal_line, fault_line}
use Rattle.limits.specs.Limits.{room}
use Rattle.rules.specs.Result.{Result}
use Rattle.desk.specs.Answer.{Answers}

-- "A0, the count of pieces in one byte and the answer bytes; or E0 and the refusal number in one byte": the line for
-- 01's number
abbrev pub reply : ℕ → ℕ → List ℕ → List ℕ
reply zero pieces answer = answer_line pieces answer
reply (suc k) pieces answer = refusal_line (suc k)

-- the line for what comes back
abbrev pub line_for : Result → List ℕ
line_for r = reply r.number r.count (take r.bytes r.after)

-- the line for the pair a, b: "It gives each pair a room of 310 bytes"
pub record Answered (a b : List ℤ) (line : List ℕ) : Type 0 where
  pub before : List ℕ
  pub result : Result
  pub roomy : length before ≡ room
  pub answers : Answers a b before result
  pub replied : line ≡ line_for result

-- "For each pair it writes one line"; a fault "gives the line EF"
abbrev pub LineOf : Event → List ℕ → Type 0
LineOf (pair a b) line = Answered a b line
LineOf fault line = line ≡ fault_line

-- the lines of some events, one after the other
abbrev pub Lines : List Event → List ℕ → Type 0
Lines [] out = out ≡ []
Lines (e ∷ more) out = (line : List ℕ) × (rest : List ℕ) × LineOf e line × Lines more rest × (out ≡ line ++ rest)

-- The whole output. No event follows a fault, so that nothing follows EF; empty input tells nothing.
abbrev pub Output : List ℕ → List ℕ → Type 0
Output input out = Lines (events input) out
