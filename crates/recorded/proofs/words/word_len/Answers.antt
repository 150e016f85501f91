-- `words::word_len` meets its contract.
use Rattle.std.specs.Prelude.{leb, length, unwrap_or}
use Rattle.std.proofs.Common.{rules, tests, ap, ◌∙◌}
use Rattle.std.proofs.lemmas.Iterator.{YieldsList-from_slice}
use Rattle.std.proofs.lemmas.Iterator.Search.{position_from_yields_List}
use Rattle.std.proofs.lemmas.Iterator.Adapters.{position_from-zero}
use Rattle.recorded.proofs.Ends.{first_blank}
use Rattle.recorded.proofs.words.word_len.Goals as goal

pub returns : goal.returns
returns c =
    let text = c.args.text.now in
    let first =
    position_from_yields_List (λ b. leb b 32) _ _ c.position.result c.position.ensures.ran
    (YieldsList-from_slice text cc) (λ x b q k. search (rules, tests))
    ∙ position_from-zero (λ b. leb b 32) text in
    c.unwrap_or.ensures ∙ ap (λ r. unwrap_or r (length text)) first ∙ first_blank text
