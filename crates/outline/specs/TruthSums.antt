-- Sums of truth values: a ⊕ b is true where exactly one of the two is.
use Rattle.std.specs.Prelude.{◌≡◌, refl, Bool, true, false, not}
use Rattle.std.proofs.Common.{sym, ◌∙◌, ap}
use Rattle.outline.specs.Odd.{◌⊕◌}
use Rattle.outline.specs.Xor.{⊕-same, ⊕-swap, ⊕-zero}

pub ⊕-yes : (a : Bool) → a ⊕ true ≡ not a
⊕-yes true = refl
⊕-yes false = refl

pub not_not : (a : Bool) → not (not a) ≡ a
not_not true = refl
not_not false = refl

-- the same on both sides goes out
⊕-undo : (a b : Bool) → (a ⊕ b) ⊕ b ≡ a
⊕-undo true true = refl
⊕-undo true false = refl
⊕-undo false true = refl
⊕-undo false false = refl

-- ---- equations: a + b = e + f
pub ⊕-across : (a b e f : Bool) → a ⊕ b ≡ e ⊕ f → a ⊕ e ≡ b ⊕ f
⊕-across a b e f h = ⊕-zero (⊕-swap a e b f ∙ ap (λ z. z ⊕ (e ⊕ f)) h ∙ ⊕-same (e ⊕ f))

pub ⊕-solve : (a b e f : Bool) → a ⊕ b ≡ e ⊕ f → a ≡ (b ⊕ f) ⊕ e
⊕-solve a b e f h = sym (⊕-undo a e) ∙ ap (λ z. z ⊕ e) (⊕-across a b e f h)
