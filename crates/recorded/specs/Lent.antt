-- What a buffer holds, place by place. To be believed.
use Rattle.std.specs.Prelude.{◌≡◌, cond, List, [], ◌∷◌, ℕ, suc, ◌+◌, ◌%◌, ◌<◌, eqb, length, get_or}
use Rattle.std.proofs.Common.{sym, subst, ◌∙◌, ext_get_or}

-- `item` tells each place of the buffer after a call; its length stays
pub record Holds {A : Type 0} (nought : A) (item : ℕ → A) (before after : List A) : Type 0 where
  pub size : length after ≡ length before
  pub each : (k : ℕ) → k < length before → get_or after k nought ≡ item k

-- no second buffer
pub holds_unique : {A : Type 0} (nought : A) (item : ℕ → A) (before after after' : List A) →
    Holds nought item before after → Holds nought item before after' → after ≡ after'
holds_unique nought item before after after' x y = ext_get_or nought after after' (x.size ∙ sym y.size) same
  where
    same : (k : ℕ) → k < length after → get_or after k nought ≡ get_or after' k nought
    same k h = let g = subst (λ n. k < n) x.size h in x.each k g ∙ sym (y.each k g)

-- what byte i of a buffer holds before it is lent
abbrev pub unwritten : ℕ → ℕ
unwritten i = 200 + i % 50

-- how many places from the front on hold the same in two buffers
abbrev pub agreeing : List ℕ → List ℕ → ℕ
agreeing [] b = 0
agreeing (x ∷ a) [] = 0
agreeing (x ∷ a) (y ∷ b) = cond (eqb x y) (suc (agreeing a b)) 0
