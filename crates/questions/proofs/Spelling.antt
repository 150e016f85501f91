-- The decimal digits of a number: those that are written are those of the definition.
use Rattle.std.specs.Prelude.{◌≡◌, List, [], ◌∷◌, ◌++◌, ℕ, zero, suc, ◌+◌, ◌/◌, ◌%◌, ◌^◌, ◌<◌, ℤ, pos, negsuc, decimal, true, unsigned_abs, int_lt}
use Rattle.std.specs.Fmt.{signed_decimal}
use Rattle.std.specs.Int.{w64}
use Rattle.std.proofs.Common.{sym, ap, ◌∙◌, arith, true≢false, SFits, append_assoc}
use Rattle.std.proofs.lemmas.Bool.{lt-ltb, le-ltb}
use Rattle.std.proofs.lemmas.Fmt.{decimal_digit, decimal_step}
use mathlib.Core.Logic.{by_cases}
use native.Mathlib.Decide.{dec_lt}
use Rattle.questions.specs.Questions.{spelt, natural_text, whole_text}

one_digit : (places n : ℕ) → n < 10 → decimal n ≡ spelt (suc places) n
one_digit places n l =
    let e : n % 10 ≡ n = omega arith in
    rw (lt-ltb n 10 l, e) (decimal_digit n l)

spells : (places n : ℕ) → n < 10 ^ suc places → n < 2 ^ 64 → decimal n ≡ spelt (suc places) n
spells zero n h w = one_digit zero n (omega (arith, h))
spells (suc places) n h w =
    by_cases (dec_lt n 10) (λ l. one_digit (suc places) n l)
    (λ l. rw (le-ltb n 10 (omega arith)) (decimal_step n (omega arith) w
    ∙ ap (λ (u : List ℕ). u ++ (48 + n % 10) ∷ []) (spells places (n / 10) (omega arith) (omega arith))))

pub natural_spelt : (n : ℕ) → n < 2 ^ 64 → decimal n ≡ natural_text n
unfolding natural_text
natural_spelt n w = spells 19 n (omega arith) w

pub whole_spelt : (z : ℤ) → SFits w64 z → signed_decimal z ≡ whole_text z
unfolding whole_text
whole_spelt (pos n) f = natural_spelt n (omega (arith, f.sfits))
whole_spelt (negsuc n) f = ap (λ (u : List ℕ). 45 ∷ u) (natural_spelt (suc n) (omega (arith, f.sfits)))

-- below zero, behind what was told before: the sign and the size. By it `push_step` is proved too where it writes the
-- sign by hand: so its must-fail edit is refused for the plus alone
pub below_spelt : (u : List ℕ) (z : ℤ) → SFits w64 z → int_lt z (pos 0) ≡ true →
    u ++ whole_text z ≡ (u ++ 45 ∷ []) ++ decimal (unsigned_abs z)
unfolding whole_text
below_spelt u (pos n) f e = absurd (true≢false (sym e ∙ le-ltb n 0 (omega arith)))
below_spelt u (negsuc n) f e = rw (natural_spelt (suc n) (omega (arith, f.sfits))) (simp append_assoc)
