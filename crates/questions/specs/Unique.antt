-- No second answer fits a line.
use Rattle.std.specs.Prelude.{◌≡◌, List, ℕ, replicate, Option, Some, None}
use Rattle.std.proofs.Common.{sym, ap, ◌∙◌}
use Rattle.limits.specs.Limits.{room}
use Rattle.marks.specs.Carry.{mark}
use Rattle.marks.specs.Unique.{carry_unique}
use Rattle.questions.specs.Questions.{Question, mark_asked, told_line, question, Answers}

pub answers_unique : (q : Option Question) (w v : List ℕ) → Answers q w → Answers q v → w ≡ v
answers_unique None w v a b = a ∙ sym b
answers_unique (Some (mark_asked first second x y)) w v a b =
    let e =
    carry_unique first second (mark x y) (replicate room 0) a.carried b.carried a.after b.after
    a.carries b.carries in
    a.is_line ∙ ap told_line e.0 ∙ sym b.is_line

pub reply_unique : (line w v : List ℕ) → Answers (question line) w → Answers (question line) v → w ≡ v
reply_unique line = answers_unique (question line)
