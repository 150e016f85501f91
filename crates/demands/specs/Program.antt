-- What a program is that meets desk's statement, so that a theorem about the answer is one about whatever such a
-- program gives; and a result by its bytes, for rows of examples. To be believed, with desk's `Answers`.
use Rattle.std.specs.Prelude.{◌≡◌, List, [], ◌++◌, ℕ, ℤ, length, drop}
use Rattle.rules.specs.Result.{Result}
use Rattle.desk.specs.Answer.{Answers}
use Rattle.desk.specs.Unique.{answer_unique}

-- from the first drawing, the second drawing and the buffer; its length is the room
abbrev pub Program : Type 0
Program = List ℤ → List ℤ → List ℕ → Result

pub record Meets (p : Program) : Type 0 where
  pub answers : (first second : List ℤ) (before : List ℕ) → Answers first second before (p first second before)

-- ---- the statement leaves a program nothing to choose: two programs that meet it give the same for every pair and
-- every buffer
pub one_program : (p q : Program) → Meets p → Meets q → (first second : List ℤ) (before : List ℕ) →
    p first second before ≡ q first second before
one_program p q m l first second before =
    answer_unique first second before _ _ (m.answers first second before) (l.answers first second before)

-- ---- a result by its bytes
pub record Expected : Type 0 where
  pub number : ℕ
  pub count : ℕ
  pub laid : List ℕ

abbrev pub cutting : ℕ → List ℕ → Expected
cutting count laid = record { number = 0; count = count; laid = laid }

abbrev pub refusal : ℕ → Expected
refusal number = record { number = number; count = 0; laid = [] }

-- the bytes after those used keep their values
abbrev pub writing : Expected → List ℕ → Result
writing e before = record {
  number = e.number;
  count = e.count;
  bytes = length e.laid;
  after = e.laid ++ drop (length e.laid) before;
}

abbrev pub Gives : List ℤ → List ℤ → List ℕ → Expected → Type 0
Gives first second before e = Answers first second before (writing e before)
