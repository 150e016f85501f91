-- A list that is read word by word: one more.
use Rattle.std.specs.Prelude.{◌≡◌, Bool, ◌&&◌, List, ℕ, ◌+◌, ◌<◌, length, get_or, Option, unwrap_or}
use Rattle.std.proofs.Common.{ap, ap₂, ◌∙◌, arith, below_more}
use Rattle.std.proofs.Math.ListN.{set}
use Rattle.std.proofs.Math.Seq.{get_or-set_same, get_or-set_other}
use native.Mathlib.Numerals.{add-one}
use Rattle.recorded.specs.Decimals.{first_word, after, place, word_in, is_number, all_numbers, number_in}

module _ {A : Type 0} (tell : List ℕ → Option A) (text : List ℕ) (at i p : ℕ)
    (here : p ≡ place text at i) where
  pub next_place : (q : ℕ) → q ≡ after text p → q ≡ place text at (i + 1)
  unfolding place
  next_place q e = rw (add-one i) (e ∙ ap (after text) here)

  module _ (r : Option A) (e : r ≡ tell (first_word text p)) where
    this_word : r ≡ tell (word_in text at i)
    this_word = e ∙ ap (λ (k : ℕ). tell (first_word text k)) here

    pub all_more : (b : Bool) → b ≡ all_numbers tell text at i →
        (b && is_number tell r) ≡ all_numbers tell text at (i + 1)
    all_more b g = rw (add-one i) (ap₂ ◌&&◌ g (ap (is_number tell) this_word))

    pub each_more : (nought : A) (v : A) → v ≡ unwrap_or r nought → (out : List A) → i < length out →
        ((k : ℕ) → k < i → get_or out k nought ≡ number_in tell nought text at k) →
        (k : ℕ) → k < i + 1 → get_or (set out i v) k nought ≡ number_in tell nought text at k
    each_more nought v g out h each =
        below_more _ _ (λ k l. get_or-set_other out i k v nought (λ q. omega arith) ∙ each k l)
        (get_or-set_same out i v nought h ∙ g ∙ ap (λ (o : Option A). unwrap_or o nought) this_word)
