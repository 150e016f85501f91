-- No second result and no second buffer keeps what `sight` promises of a pair.
use Rattle.std.specs.Prelude.{◌≡◌, refl, cond, ◌⊎◌, List, ℕ, eqb, ℤ, Result, Ok, Err, ⊤}
use Rattle.std.proofs.Common.{sym, ap, ◌∙◌, subst, inl, inr}
use Rattle.std.proofs.Math.Logic.{by_cases}
use Rattle.std.proofs.Math.Decide.{ℕ_discrete}
use Rattle.outline.specs.Drawing.{Sound}
use Rattle.drawing.specs.Seen.{told_unique}
use Rattle.rules.specs.Refusals.{failed_unique}
use Rattle.pair.specs.Pair.{Alike, lines, Checks, FirstTold, SecondTold, result_number}
use Rattle.pair.specs.declared.Refusal.{Refusal}
use Rattle.pair.specs.declared.Refusal.TheVariants as is
use Rattle.pair.proofs.Passing.{first_passes, pair_passes}

-- ---- a number names its refusal, or says that there is none
abbrev named : ℕ → Result ⊤ Refusal
named k =
    cond (eqb k 0) (Ok tt)
    (cond (eqb k 1) (Err is.Unlike)
    (cond (eqb k 3) (Err is.FirstOutOfRange)
    (cond (eqb k 4) (Err is.FirstNotSimple)
    (cond (eqb k 5) (Err is.FirstNotAnticlockwise)
    (cond (eqb k 6) (Err is.SecondOutOfRange)
    (cond (eqb k 7) (Err is.SecondNotSimple) (Err is.SecondNotAnticlockwise)))))))

name : (r : Result ⊤ Refusal) → named (result_number r) ≡ r
name (Ok _) = refl
name (Err is.Unlike) = refl
name (Err is.FirstOutOfRange) = refl
name (Err is.FirstNotSimple) = refl
name (Err is.FirstNotAnticlockwise) = refl
name (Err is.SecondOutOfRange) = refl
name (Err is.SecondNotSimple) = refl
name (Err is.SecondNotAnticlockwise) = refl

pub result_one : (r s : Result ⊤ Refusal) → result_number r ≡ result_number s → r ≡ s
result_one r s e = sym (name r) ∙ ap named e ∙ name s

-- ---- what is promised of a pair
module _ (first second : List ℤ) where
  pub check_unique : (k k' : ℕ) → Checks first second k → Checks first second k' → k ≡ k'
  check_unique k k' h h' = failed_unique (lines first second) k k' h.numbered h'.numbered

  pub sight_unique : (r s : Result ⊤ Refusal) → Checks first second (result_number r) →
      Checks first second (result_number s) →
      r ≡ s
  sight_unique r s h k = result_one r s (check_unique (result_number r) (result_number s) h k)

  -- the number says whether the first drawing is told
  pub first_unique : (k : ℕ) (o a b : List ℕ) → Checks first second k → FirstTold first second o a →
      FirstTold first second o b →
      a ≡ b
  first_unique k o a b h f g = go (first_passes first second k h)
    where
      go : (Alike first second × Sound first) ⊎ (¬ (Alike first second × Sound first)) → a ≡ b
      go (inl p) = told_unique p.1.shaped.few (f.told p.0 p.1) (g.told p.0 p.1)
      go (inr n) = f.kept n ∙ sym (g.kept n)

  pub second_unique : (k : ℕ) (o a b : List ℕ) → Checks first second k → SecondTold second k o a →
      SecondTold second k o b →
      a ≡ b
  second_unique k o a b h f g =
      by_cases (ℕ_discrete k 0)
      (λ z. let s = pair_passes first second (subst (Checks first second) z h) in
      told_unique s.second_sound.shaped.few (f.told z) (g.told z))
      (λ n. f.kept n ∙ sym (g.kept n))
