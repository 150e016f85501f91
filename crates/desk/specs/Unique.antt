-- The statement of the answer fixes it: no second number, count or buffer satisfies it.
use Rattle.std.specs.Prelude.{◌≡◌, refl, cond, List, ℕ, eqb, ◌<◌, ℤ, length, Ok, Err}
use Rattle.std.specs.Prelude as std
use Rattle.std.proofs.Common.{sym, ap, ◌∙◌, arith}
use Rattle.outline.specs.Drawing.{corners}
use Rattle.rules.specs.Plan.{stars_one}
use Rattle.rules.specs.Result.{Result}
use Rattle.rules.proofs.Result.{comes_back_unique}
use Rattle.pair.specs.declared.Refusal.TheVariants as pair
use Rattle.telling.specs.declared.Told.{Told}
use Rattle.desk.specs.Answer.{InBoth, Cut, plan, asked, Answers, number, result_of, for_c}
use Rattle.desk.specs.declared.Outcome.{Outcome}
use Rattle.desk.specs.declared.Refusal.{Refusal}
use Rattle.desk.specs.declared.Refusal.TheVariants.{Pair, Room, NoCutting}

-- ---- a number names its refusal, and each is above zero
abbrev named : ℕ → Refusal
named k =
    cond (eqb k 1) (Pair pair.Unlike)
    (cond (eqb k 2) Room
    (cond (eqb k 3) (Pair pair.FirstOutOfRange)
    (cond (eqb k 4) (Pair pair.FirstNotSimple)
    (cond (eqb k 5) (Pair pair.FirstNotAnticlockwise)
    (cond (eqb k 6) (Pair pair.SecondOutOfRange)
    (cond (eqb k 7) (Pair pair.SecondNotSimple)
    (cond (eqb k 8) (Pair pair.SecondNotAnticlockwise) NoCutting)))))))

pub name : (r : Refusal) → (named (number r) ≡ r) × (0 < number r)
name (Pair pair.Unlike) = (refl, omega arith)
name (Pair pair.FirstOutOfRange) = (refl, omega arith)
name (Pair pair.FirstNotSimple) = (refl, omega arith)
name (Pair pair.FirstNotAnticlockwise) = (refl, omega arith)
name (Pair pair.SecondOutOfRange) = (refl, omega arith)
name (Pair pair.SecondNotSimple) = (refl, omega arith)
name (Pair pair.SecondNotAnticlockwise) = (refl, omega arith)
name Room = (refl, omega arith)
name NoCutting = (refl, omega arith)

pub refusal_one : (r s : Refusal) → number r ≡ number s → r ≡ s
refusal_one r s e = sym (name r).0 ∙ ap named e ∙ (name s).0

-- so what a call returns is told from 01's result, and what it leaves
pub call_one : (r s : std.Result Told Refusal) {after after' : List ℕ} → result_of r after ≡ result_of s after' →
    (r ≡ s) × (after ≡ after')
call_one (Ok t) (Ok u) e =
    ((λ i. Ok (record { pieces = (e i).count; bytes = (e i).bytes })), ap (λ (x : Result). x.after) e)
call_one (Ok t) (Err f) e = absurd (omega (arith, ap (λ (x : Result). x.number) e, (name f).1))
call_one (Err f) (Ok t) e = absurd (omega (arith, ap (λ (x : Result). x.number) e, (name f).1))
call_one (Err f) (Err g) e =
    (ap Err (refusal_one f g (ap (λ (x : Result). x.number) e)), ap (λ (x : Result). x.after) e)

module _ (first second : List ℤ) (before : List ℕ) where
  pub answer_unique : (r s : Result) → Answers first second before r → Answers first second before s → r ≡ s
  answer_unique =
      comes_back_unique (plan first second) (stars_one (Cut first second) (InBoth first second)) (corners first) before
      (asked first second (length before))

  -- so two calls return the same and leave the same buffer
  pub call_unique : (o o' : std.Result Told Refusal) (after after' : List ℕ) →
      Answers first second before (result_of o after) →
      Answers first second before (result_of o' after') → (o ≡ o') × (after ≡ after')
  call_unique o o' after after' h k = call_one o o' (answer_unique (result_of o after) (result_of o' after') h k)

  -- and two calls for C
  pub outcome_unique : (o o' : Outcome) (after after' : List ℕ) → Answers first second before (for_c o after) →
      Answers first second before (for_c o' after') → (o ≡ o') × (after ≡ after')
  outcome_unique o o' after after' h k =
      let e = answer_unique (for_c o after) (for_c o' after') h k in (
        (λ i. record { number = (e i).number; pieces = (e i).count; bytes = (e i).bytes }),
        ap (λ (r : Result). r.after) e,
      )
