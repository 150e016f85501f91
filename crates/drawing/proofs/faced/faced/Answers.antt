-- `drawing::faced::faced` meets its contract.
use mathlib.Core.Path.{ap, ◌∙◌}
use Prim.Native.Nat.{min, max}
use Rattle.whole.specs.Bits.{bit}
use Rattle.drawing.specs.Faced.{faced_at, faced_off}
use Rattle.drawing.proofs.faced.faced.Goals as goal

pub returns : goal.returns
returns c =
    let s = c.args in
    let two = s.bends.two in
    let one = s.bends.one in
    let left = s.left in
    let r = c.around-before.result in
    record {
      at = λ k h. faced_at two one left r k ∙
          ap (λ x. max (min (min (bit two k) (bit left k)) x) (min (bit one k) (max (bit left k) x)))
          (c.around-before.ensures k h);
      off = λ k. faced_off two one left r k;
    }
