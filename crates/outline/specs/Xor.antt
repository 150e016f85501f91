-- Truth values added as `Odd` adds them: the sum is true where just one of the two is.
use Rattle.std.specs.Prelude.{◌≡◌, refl, Bool, true, false, not}
use Rattle.std.proofs.Common.{sym, ◌∙◌, ap}
use Rattle.outline.specs.Odd.{◌⊕◌}

pub ⊕-no : (b : Bool) → b ⊕ false ≡ b
⊕-no true = refl
⊕-no false = refl

pub ⊕-same : (b : Bool) → b ⊕ b ≡ false
⊕-same true = refl
⊕-same false = refl

pub ⊕-eq : {a b : Bool} → a ≡ b → a ⊕ b ≡ false
⊕-eq {a} {b} e = ap (λ z. z ⊕ b) e ∙ ⊕-same b

pub ⊕-zero : {a b : Bool} → a ⊕ b ≡ false → a ≡ b
⊕-zero {a = true} {b = true} e = refl
⊕-zero {a = true} {b = false} e = e
⊕-zero {a = false} {b = true} e = sym e
⊕-zero {a = false} {b = false} e = refl

pub ⊕-comm : (a b : Bool) → a ⊕ b ≡ b ⊕ a
⊕-comm true true = refl
⊕-comm true false = refl
⊕-comm false true = refl
⊕-comm false false = refl

-- a value turned over turns the sum over
pub ⊕-not : (a b : Bool) → not a ⊕ b ≡ not (a ⊕ b)
⊕-not true true = refl
⊕-not true false = refl
⊕-not false b = refl

pub ⊕-move : (a b : Bool) → a ⊕ not b ≡ not (a ⊕ b)
⊕-move true b = refl
⊕-move false b = refl

⊕-assoc : (a b c : Bool) → (a ⊕ b) ⊕ c ≡ a ⊕ (b ⊕ c)
⊕-assoc true b c = ⊕-not b c
⊕-assoc false b c = refl

-- (a + b) + (c + d) = (a + c) + (b + d)
pub ⊕-swap : (a b c d : Bool) → (a ⊕ b) ⊕ (c ⊕ d) ≡ (a ⊕ c) ⊕ (b ⊕ d)
⊕-swap a b c d =
    ⊕-assoc a b (c ⊕ d)
    ∙ ap (λ z. a ⊕ z) (sym (⊕-assoc b c d) ∙ ap (λ z. z ⊕ d) (⊕-comm b c) ∙ ⊕-assoc c b d)
    ∙ sym (⊕-assoc a c (b ⊕ d))

-- a link of a chain: (a + b) + (c + a) = c + b
pub ⊕-chain : (a b c : Bool) → (a ⊕ b) ⊕ (c ⊕ a) ≡ c ⊕ b
⊕-chain a b c =
    ap (λ z. z ⊕ (c ⊕ a)) (⊕-comm a b) ∙ ⊕-swap b a c a ∙ ap (λ z. (b ⊕ c) ⊕ z) (⊕-same a) ∙ ⊕-no (b ⊕ c) ∙ ⊕-comm b c
