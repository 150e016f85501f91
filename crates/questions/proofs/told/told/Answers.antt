-- `told::told` meets its contract.
use Rattle.std.proofs.Common.{rules, append_assoc}
use Rattle.questions.specs.Questions.{landing_text}
use Rattle.questions.proofs.Spelling.{natural_spelt}
use Rattle.questions.proofs.told.told.Goals as goal
use Rattle.questions.proofs.told.told.Goals.{in-Ok, in-Err}

pub returns : goal.returns
unfolding landing_text
returns c =
    elim c.match-carried.branch [
      | in-Ok w ↦
          rw (c.push_str.ensures.bytes, w.line-is, w.push_landing.ensures.text, w.push_number.ensures.text)
          (rw (c.new-line.ensures, w.in-Ok.is, natural_spelt 0 (search rules)) (simp append_assoc))
      | in-Err w ↦
          rw (c.push_str.ensures.bytes, w.line-is, w.push_number-in-Err.ensures.text, c.new-line.ensures, w.in-Err.is)
          (rw (natural_spelt w.from.result (search rules), w.from.ensures))
    ]
