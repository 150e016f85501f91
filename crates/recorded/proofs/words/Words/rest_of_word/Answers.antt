-- `Words::rest_of_word` meets its contract.
use Rattle.std.proofs.Common.{refl, sym, arith, length-take-le}
use Rattle.recorded.proofs.Ends.{end_fits, end_is, word_is, word_inside}
use Rattle.recorded.proofs.words.Words.rest_of_word.Goals as goal

pub overflow_add-self : goal.overflow_add-self
overflow_add-self c =
    let words = c.args.self.now in
    let n = c.word_len-n in
    omega (
      arith,
      end_fits words.text.now words.at _ c.rest-rest.ensures (omega arith) (omega arith) n.result n.ensures,
    )

pub slice_bounds-result-end : goal.slice_bounds-result-end
slice_bounds-result-end c =
    let words = c.args.self.now in
    sym (length-take-le _ _ (word_inside words.text.now words.at _ c.rest-rest.ensures _ c.word_len-n.ensures))

pub returns-clause-value : goal.returns-clause-value
returns-clause-value c =
    let words = c.args.self.now in
    word_is words.text.now words.at _ c.rest-rest.ensures _ c.word_len-n.ensures

pub returns-clause-place : goal.returns-clause-place
returns-clause-place c =
    let words = c.args.self.now in
    record {
      same_text = refl;
      place = end_is words.text.now words.at _ c.rest-rest.ensures _ c.word_len-n.ensures;
    }
