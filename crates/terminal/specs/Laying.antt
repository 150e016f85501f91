-- What the private functions promise: a line is laid into the output's buffer behind those that stand there.
use Rattle.std.specs.Prelude.{◌≡◌, List, ◌++◌, ℕ, ◌+◌, ◌*◌, ◌≤◌, min, ℤ, length, take, drop}
use Rattle.frames.specs.Frames.{Event}
use Rattle.terminal.specs.Terminal.{LineOf}
use Rattle.limits.specs.Limits.{longest_line}

-- room for the line of a pair with this first drawing, from `at` on
abbrev pub Space : List ℤ → List ℕ → ℕ → Type 0
Space a out at = at + min longest_line (10 + 6 * length a) ≤ length out

-- the line of an event stands from `at` on, and r is the place after it
pub record Laid (e : Event) (out : List ℕ) (at r : ℕ) (out' : List ℕ) : Type 0 where
  pub line : List ℕ
  pub is : LineOf e line
  pub fits : at + length line ≤ length out
  pub next : r ≡ at + length line
  pub placed : out' ≡ take at out ++ line ++ drop (at + length line) out
