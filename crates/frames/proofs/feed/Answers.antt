-- `feed`: what the rest of the chunk does to the reader stays what the whole of it did at first.
use Rattle.std.proofs.Common.{ap, refl, ◌∙◌, arith}
use Rattle.std.specs.Prelude.{Ok}
use Rattle.std.proofs.lemmas.Result.{err_from_is_err_and}
use Rattle.frames.specs.Chunks.{feeding}
use Rattle.frames.proofs.Feeding.{feeds_end, feeds_on, feeds_pair, feeds_fault}
use Rattle.frames.proofs.feed.Goals as goal

pub returns-in_err-next : goal.returns-in_err-next
returns-in_err-next c =
    let p = err_from_is_err_and c.from_residual.result c.from_residual.ensures.1 in
    rw (p.1)
    (feeding (feeds_fault _ _ _ _ _ (omega arith) c.in_err-next.ensures refl ∙ c.loop-i.invariant.2))

pub returns-in-Pair : goal.returns-in-Pair
returns-in-Pair c =
    feeding (feeds_pair _ _ _ _ _ (omega arith) c.in_ok-next.ensures (ap Ok c.in-Pair.is) ∙ c.loop-i.invariant.2)

pub loop-i-preserved : goal.loop-i-preserved
loop-i-preserved c = (
  omega arith,
  omega arith,
  feeds_on _ _ _ _ _ (omega arith) c.in_ok-next.ensures (ap Ok c.in-On.is) ∙ c.loop-i.invariant.2,
)

pub returns : goal.returns
returns c = feeding (feeds_end _ _ _ _ _ (omega arith) ∙ c.loop-i.invariant.2)
