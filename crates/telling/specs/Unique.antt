-- No second result and no second buffer satisfy what `tell` promises.
use Rattle.std.specs.Prelude.{◌≡◌, refl, List, ℕ, ◌<◌, length, Ok, Err}
use Rattle.std.specs.Prelude as std
use Rattle.std.proofs.Common.{ap, arith}
use Rattle.std.proofs.Math.Decide.{dec_lt}
use Rattle.rules.specs.Cutting.{pieces}
use Rattle.rules.specs.Centre.{LowestOrZero, lowest_or_zero_one}
use Rattle.rules.specs.Cells.{marked, InBoth}
use Rattle.rules.specs.Refusals.{failed_unique}
use Rattle.rules.specs.Result.{Result}
use Rattle.rules.specs.Result.{refused_unique, carries_unique}
use Rattle.telling.specs.Answer.{result_of, asked, Telling}
use Rattle.telling.specs.declared.Told.{Told}
use Rattle.telling.specs.declared.Refusal.{Refusal}
use Rattle.telling.specs.declared.Refusal.TheVariants.{Unserved, Short}

module _ (n : ℕ) (pairs first second before : List ℕ) where
  pub telling_unique : (r s : Result) → Telling n pairs first second before r →
      Telling n pairs first second before s → r ≡ s
  telling_unique r s a b = go (dec_lt 0 r.number)
    where
      e : r.number ≡ s.number
      e = failed_unique (asked n pairs first second (length before)) r.number s.number
          a.numbered b.numbered

      go : Dec (0 < r.number) → r ≡ s
      go (yes lt) = refused_unique before r s e (a.refused lt) (b.refused (omega (arith, e)))
      go (no nl) =
          let both = InBoth first second in
          carries_unique (LowestOrZero both) (lowest_or_zero_one both) (pieces n (marked pairs)) before r s e
          (a.given (omega arith)) (b.given (omega (arith, e)))

  -- so two calls return the same and leave the same buffer: a case has its own number
  pub tell_unique : (o o' : std.Result Told Refusal) (after after' : List ℕ) →
      Telling n pairs first second before (result_of o after) →
      Telling n pairs first second before (result_of o' after') → (o ≡ o') × (after ≡ after')
  tell_unique o o' after after' t t' =
      let e = telling_unique (result_of o after) (result_of o' after') t t' in
      (case o o' e, back o o' e)
    where
      back : (o o' : std.Result Told Refusal) → result_of o after ≡ result_of o' after' → after ≡ after'
      back (Ok t) (Ok t') e = ap (λ (r : Result). r.after) e
      back (Ok t) (Err f) e = ap (λ (r : Result). r.after) e
      back (Err f) (Ok t) e = ap (λ (r : Result). r.after) e
      back (Err f) (Err f') e = ap (λ (r : Result). r.after) e

      case : (o o' : std.Result Told Refusal) → result_of o after ≡ result_of o' after' → o ≡ o'
      case (Ok t) (Ok t') e = λ i. Ok (record { pieces = (e i).count; bytes = (e i).bytes })
      case (Ok t) (Err Unserved) e = absurd (omega (arith, ap (λ (r : Result). r.number) e))
      case (Ok t) (Err Short) e = absurd (omega (arith, ap (λ (r : Result). r.number) e))
      case (Err Unserved) (Ok t) e = absurd (omega (arith, ap (λ (r : Result). r.number) e))
      case (Err Short) (Ok t) e = absurd (omega (arith, ap (λ (r : Result). r.number) e))
      case (Err Unserved) (Err Unserved) e = refl
      case (Err Unserved) (Err Short) e = absurd (omega (arith, ap (λ (r : Result). r.number) e))
      case (Err Short) (Err Unserved) e = absurd (omega (arith, ap (λ (r : Result). r.number) e))
      case (Err Short) (Err Short) e = refl
