-- A walk over a mask from mark to mark.
use Rattle.std.specs.Prelude.{◌≡◌, ℕ, Option, Some, None}
use Rattle.whole.specs.Masks.{mark, others}

-- what stands next in a walk that has `rest` before it, and what is left after it
abbrev pub NextMark : ℕ → Option ℕ → ℕ → Type 0
NextMark rest None after = (rest ≡ 0) × (after ≡ rest)
NextMark rest (Some k) after = (¬ (rest ≡ 0)) × (k ≡ mark rest) × (after ≡ others rest)
