-- No second result and no second buffer: each public call's statement leaves one.
use Rattle.std.specs.Prelude.{Result}
use Rattle.frames.specs.declared.Fault.{Fault}
use Rattle.std.specs.Prelude.{◌≡◌, ℕ, Bool, List, ℤ}
use Rattle.std.proofs.Common.{sym, ◌∙◌}
use Rattle.frames.specs.Frames.{answer_line, refusal_line, fault_line}
use Rattle.frames.specs.Answer.{Written, written_unique}
use Rattle.frames.specs.Promise.{Feeding}
use Rattle.frames.specs.Reader.{fresh, ends_in_fault}
use Rattle.frames.specs.declared.Reader.{Reader}
use Rattle.frames.specs.declared.Fed.{Fed}

pub start_unique : (r s : Reader) → r ≡ fresh → s ≡ fresh → r ≡ s
start_unique r s p q = p ∙ sym q

pub feed_unique : (reader : Reader) (chunk : List ℕ) (i : ℕ) (f g : List ℤ) (r s : Result Fed Fault)
    (f' f'' g' g'' : List ℤ) →
    Feeding reader chunk i f g r f' g' → Feeding reader chunk i f g s f'' g'' → (r ≡ s) × (f' ≡ f'') × (g' ≡ g'')
feed_unique reader chunk i f g r s f' f'' g' g'' p q =
    let e = p.exact ∙ sym q.exact in
    (λ k. (e k).0, λ k. (e k).1, λ k. (e k).2)

pub fault_at_end_unique : (reader : Reader) (a b : Bool) → a ≡ ends_in_fault reader → b ≡ ends_in_fault reader → a ≡ b
fault_at_end_unique reader a b p q = p ∙ sym q

-- the three functions that write a line
module _ (out : List ℕ) (at r s : ℕ) (out' out'' : List ℕ) where
  pub answer_line_unique : (pieces : ℕ) (answer : List ℕ) → Written (answer_line pieces answer) out at r out' →
      Written (answer_line pieces answer) out at s out'' → (r ≡ s) × (out' ≡ out'')
  answer_line_unique pieces answer = written_unique (answer_line pieces answer) out at r s out' out''

  pub refusal_line_unique : (number : ℕ) → Written (refusal_line number) out at r out' →
      Written (refusal_line number) out at s out'' →
      (r ≡ s) × (out' ≡ out'')
  refusal_line_unique number = written_unique (refusal_line number) out at r s out' out''

  pub fault_line_unique : Written fault_line out at r out' → Written fault_line out at s out'' → (r ≡ s) ×
      (out' ≡ out'')
  fault_line_unique = written_unique fault_line out at r s out' out''
