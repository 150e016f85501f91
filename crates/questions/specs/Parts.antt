-- What the functions promise each other.
use Rattle.std.specs.Prelude.{◌≡◌, List, ℕ, Option, Some, None}
use Rattle.questions.specs.Questions.{Question, mark_asked, question, mark_question}
use Rattle.questions.specs.declared.asked.Question.{Question as Asked}

-- ---- a question, as it was read
abbrev pub Means : Option Question → Option Asked → Type 0
Means q (Some a) = q ≡ Some (mark_asked a.first.now a.second.now a.mark.x a.mark.y)
Means q None = q ≡ None

abbrev pub IsMark : List ℕ → ℕ → Option Asked → Type 0
IsMark line at = Means (mark_question line at)

abbrev pub IsAsked : List ℕ → Option Asked → Type 0
IsAsked line = Means (question line)
