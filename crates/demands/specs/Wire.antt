-- 01, "The frames on the wire": its own whole input has its own whole output, and no other; and every input has an
-- output, whatever it holds.
use Rattle.std.specs.Prelude.{◌≡◌, refl, List, [], ◌∷◌, ℕ, length, replicate}
use Rattle.std.proofs.Common.{arith}
use Rattle.std.proofs.lemmas.List.{length-replicate}
use Rattle.limits.specs.Limits.{room}
use Rattle.outline.specs.Outlines.{S}
use Rattle.frames.specs.Examples.{characters}
use Rattle.terminal.specs.Terminal.{Output, Answered}
use Rattle.terminal.specs.Unique.{output_unique, output_exists}
use Rattle.demands.specs.Program.{cutting, writing}
use Rattle.demands.specs.Sentences.{every_pair}
use Rattle.demands.specs.Outlines.{s_with_s}

-- "Both outlines the square S below, whole input"
abbrev pub two_squares : List ℕ
two_squares = characters
    "1004000000000000000004000000000004000004000000000004\n2004000000000000000004000000000004000004000000000004\n"

-- "Whole output: A0, one piece, 4 corners, centre 0, corners 0 to 3"
abbrev pub one_line : List ℕ
one_line = characters "A001040000010203\n"

-- "a room of 310 bytes"
abbrev blank : List ℕ
blank = replicate room 0

enough : length blank ≡ room
enough = length-replicate {A = ℕ} room 0

squares_answered : Answered S S one_line
squares_answered = record {
  before = blank;
  result = writing (cutting 1 (4 ∷ 0 ∷ 0 ∷ 1 ∷ 2 ∷ 3 ∷ [])) blank;
  roomy = enough;
  answers = s_with_s blank (omega (arith, enough));
  replied = refl;
}

pub wire_example : Output two_squares one_line × ((out : List ℕ) → Output two_squares out → out ≡ one_line)
wire_example = (written, λ out h. output_unique two_squares out one_line h written)
  where
    written : Output two_squares one_line
    written = (one_line, [], squares_answered, refl, refl)

-- ---- every input has an output: nothing is assumed of a program
pub every_input : (input : List ℕ) → (out : List ℕ) × Output input out
every_input = output_exists blank enough (λ a b. every_pair a b blank)
