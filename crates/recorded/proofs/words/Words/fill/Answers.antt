-- `Words::fill` meets its contract.
use Rattle.std.proofs.Common.{rules, arith, ap, ◌∙◌, ◌≡◌, ◌&&◌, Bool, List, ℕ, Bor, length-set}
use Rattle.recorded.specs.Decimals.{place, after, first_word}
use Rattle.recorded.proofs.Filling.{next_place, all_more, each_more}
use Rattle.recorded.proofs.words.Words.fill.Goals as goal

pub loop-x-init : goal.loop-x-init
unfolding place
loop-x-init g c = search rules

pub loop-x-preserved : goal.loop-x-preserved
loop-x-preserved g c =
    let l = c.loop-x in
    let words = c.args.self.now in
    let same : l.self.text.now ≡ words.text.now = ap (λ (t : Bor (List ℕ)). t.now) l.invariant.same_text in
    let goes : c.number-n.new.self.at ≡ after words.text.now l.self.at =
    c.number-n.ensures.place.place ∙ ap (λ (t : List ℕ). after t l.self.at) same in
    let told : c.number-n.result ≡ g.T.Number.told (first_word words.text.now l.self.at) =
    c.number-n.ensures.value ∙ ap (λ (t : List ℕ). g.T.Number.told (first_word t l.self.at)) same in
    let here = l.invariant.place in
    record {
      same_text = c.number-n.ensures.place.same_text ∙ l.invariant.same_text;
      place = next_place g.T.Number.told words.text.now words.at l.x-index l.self.at here _ goes;
      all =
          ap (λ (b : Bool). l.all && b) (search rules)
          ∙ all_more g.T.Number.told words.text.now words.at l.x-index l.self.at here c.number-n.result told l.all
          l.invariant.all;
      size = length-set l.out l.x-index c.unwrap_or.result ∙ l.invariant.size;
      each =
          each_more g.T.Number.told words.text.now words.at l.x-index l.self.at here c.number-n.result told
          g.T.Number.NOUGHT c.unwrap_or.result (search rules) l.out (omega arith) l.invariant.each;
    }
