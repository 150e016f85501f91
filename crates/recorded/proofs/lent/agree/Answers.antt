-- `lent::agree` meets its contract.
use Rattle.std.proofs.Common.{rules, tests, ◌∙◌, eqb}
use Rattle.std.proofs.lemmas.Iterator.{YieldsList-from_slice, YieldsList-from_zip}
use Rattle.std.proofs.lemmas.Iterator.Search.{YieldsList-from_take_while}
use Rattle.std.proofs.lemmas.Iterator.Consumers.{count_from_yields_List, YieldsList-at}
use Rattle.recorded.proofs.Agreeing.{agreeing_is}
use Rattle.recorded.proofs.lent.agree.Goals as goal

pub returns : goal.returns
returns c =
    let a = c.args.a.now in
    let b = c.args.b.now in
    let w = c.take_while.ensures in
    count_from_yields_List c.take_while.result c.count.result c.count.ensures.ran
    (YieldsList-from_take_while _ (λ p. eqb p.0 p.1)
    (YieldsList-at w.source (YieldsList-from_zip (YieldsList-from_slice a cc) (YieldsList-from_slice b cc)))
    w.closure w.done (λ x b q k. search (rules, tests)))
    ∙ agreeing_is a b
