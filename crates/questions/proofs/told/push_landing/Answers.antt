-- `told::push_landing` meets its contract.
use Rattle.std.proofs.Common.{append_assoc, append-nil}
use Rattle.questions.specs.Questions.{landing_text}
use Rattle.questions.proofs.told.push_landing.Goals as goal

pub returns-in-Some-clause-text : goal.returns-in-Some-clause-text
unfolding landing_text
returns-in-Some-clause-text c =
    rw (c.push_axis-in-Some.ensures.text, c.push_axis.ensures.text, c.in-Some.is) (simp append_assoc)

pub returns-in_default-clause-text : goal.returns-in_default-clause-text
unfolding landing_text
returns-in_default-clause-text c = rw c.in_default.is (simp append-nil)
