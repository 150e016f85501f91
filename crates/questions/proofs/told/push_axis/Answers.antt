-- `told::push_axis` meets its contract.
use Rattle.std.specs.Int.{w64}
use Rattle.std.proofs.Common.{rules, append_assoc, to_z-of_z, SFits}
use Rattle.questions.specs.Questions.{axis_text}
use Rattle.questions.proofs.Spelling.{natural_spelt}
use Rattle.questions.proofs.told.push_axis.Goals as goal

pub returns-clause-text : goal.returns-clause-text
unfolding axis_text
returns-clause-text c =
    let fits : SFits w64 c.args.axis.step = search rules in
    rw (c.push_number.ensures.text, c.push_str-2.ensures.bytes, c.push_step.ensures.text, c.push_str.ensures.bytes)
    (rw (to_z-of_z fits, natural_spelt c.bits.result (search rules), c.bits.ensures) (simp append_assoc))
