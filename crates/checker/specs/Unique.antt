-- No second verdict is given of a pair and a list, and no second case: the bytes name one list of pieces, of what is
-- asked in turn one thing fails first, and a verdict names its case.
use Rattle.std.specs.Prelude.{◌≡◌, refl, cond, List, [], ◌∷◌, ◌++◌, ℕ, eqb, ℤ, length, Result, Ok, Err, ⊤}
use Rattle.std.proofs.Common.{sym, ap, ◌∙◌, subst, inl, inr, arith}
use Rattle.std.proofs.Math.Logic.{by_cases}
use Rattle.std.proofs.Math.Decide.{ℕ_discrete}
use Rattle.outline.specs.Drawing.{corners}
use Rattle.pair.proofs.Unique.{check_unique as number_unique}
use Rattle.pair.specs.declared.Refusal.TheVariants as pair
use Rattle.pair.specs.declared.Which.{Which}
use Rattle.pair.specs.declared.Which.TheVariants.{First, Second}
use Rattle.checker.specs.Checks.{which_number, says, verdict, Entry, laid, Sight, sight_in}
use Rattle.checker.specs.Checks.{Asked, FirstFailed, of_list, OfBytes, ChecksList}
use Rattle.checker.specs.Entries.{entry_is}
use Rattle.checker.specs.declared.Fault.{Fault}
use Rattle.checker.specs.declared.Fault.TheVariants as is
use Rattle.checker.specs.declared.flat.Verdict.{Verdict}

-- ---- one thing fails first
failed_unique : (l : List Asked) (v w : Verdict) → FirstFailed l v → FirstFailed l w → v ≡ w
failed_unique [] v w h k = h ∙ sym k
failed_unique (q ∷ l) v w (inl h) (inl k) = h.1 ∙ sym k.1
failed_unique (q ∷ l) v w (inl h) (inr k) = absurd (h.0 k.0)
failed_unique (q ∷ l) v w (inr h) (inl k) = absurd (k.0 h.0)
failed_unique (q ∷ l) v w (inr h) (inr k) = failed_unique l v w h.1 k.1

-- ---- the bytes name one list: each piece begins with the count of its corners
split_same : (s t x y : List ℕ) → length s ≡ length t → s ++ x ≡ t ++ y → (s ≡ t) × (x ≡ y)
split_same [] [] x y l e = (refl, e)
split_same [] (b ∷ t) x y l e = absurd (omega arith)
split_same (a ∷ s) [] x y l e = absurd (omega arith)
split_same (a ∷ s) (b ∷ t) x y l e =
    let p = split_same s t x y (omega arith) (cc e) in
    let h : a ≡ b = cc e in
    (cc (h, p.0), p.1)

pub first_one : (e f : Entry) (x y : List ℕ) →
    length e.corners ∷ e.centre ∷ (e.corners ++ x) ≡ length f.corners ∷ f.centre ∷ (f.corners ++ y) →
    (e ≡ f) × (x ≡ y)
first_one e f x y q =
    let k : length e.corners ≡ length f.corners = cc q in
    let c : e.centre ≡ f.centre = cc q in
    let rest : e.corners ++ x ≡ f.corners ++ y = cc q in
    let p = split_same e.corners f.corners x y k rest in
    (entry_is e f c p.0, p.1)

pub laid_one : (l m : List Entry) → laid l ≡ laid m → l ≡ m
laid_one [] [] e = refl
laid_one [] (f ∷ m) e = absurd (omega (arith, ap length e))
laid_one (e ∷ l) [] q = absurd (omega (arith, ap length q))
laid_one (e ∷ l) (f ∷ m) q =
    let p = first_one e f (laid l) (laid m) q in
    let t = laid_one l m p.1 in
    let h = p.0 in
    cc (h, t)

-- ---- one verdict
module _ (first second : Sight) (n : ℕ) (bytes : List ℕ) where
  of_bytes_unique : (v w : Verdict) → OfBytes first second n bytes v → OfBytes first second n bytes w → v ≡ w
  of_bytes_unique v w (inl h) (inl k) = h.1 ∙ sym k.1
  of_bytes_unique v w (inl h) (inr k) = absurd (h.0 (k.0, k.1))
  of_bytes_unique v w (inr h) (inl k) = absurd (k.0 (h.0, h.1))
  of_bytes_unique v w (inr h) (inr k) =
      let e = laid_one h.0 k.0 (sym h.1.are ∙ k.1.are) in
      let f : FirstFailed (of_list first second n k.0) v =
      subst (λ l. FirstFailed (of_list first second n l) v) e h.2 in
      failed_unique (of_list first second n k.0) v w f k.2

module _ (first second : List ℤ) (bytes : List ℕ) where
  pub check_unique : (v w : Verdict) → ChecksList first second bytes v → ChecksList first second bytes w → v ≡ w
  check_unique v w h k =
      by_cases (ℕ_discrete h.number 0)
      (λ z. of_bytes_unique (sight_in first) (sight_in second) (corners first) bytes v w (h.sound z)
      (k.sound (sym e ∙ z)))
      (λ f. h.refused f ∙ ap says e ∙ sym (k.refused (λ z. f (e ∙ z))))
    where
      e : h.number ≡ k.number
      e = number_unique first second h.number k.number h.of_pair k.of_pair

-- ---- a verdict names its case
abbrev which : ℕ → Which
which k = cond (eqb k 1) First Second

abbrev named : Verdict → Result ⊤ Fault
named v =
    cond (eqb v.number 0) (Ok tt)
    (cond (eqb v.number 1) (Err (is.Pair pair.Unlike))
    (cond (eqb v.number 3) (Err (is.Pair pair.FirstOutOfRange))
    (cond (eqb v.number 4) (Err (is.Pair pair.FirstNotSimple))
    (cond (eqb v.number 5) (Err (is.Pair pair.FirstNotAnticlockwise))
    (cond (eqb v.number 6) (Err (is.Pair pair.SecondOutOfRange))
    (cond (eqb v.number 7) (Err (is.Pair pair.SecondNotSimple))
    (cond (eqb v.number 8) (Err (is.Pair pair.SecondNotAnticlockwise))
    (cond (eqb v.number 21) (Err is.NoList)
    (cond (eqb v.number 22) (Err is.NoCutting)
    (cond (eqb v.number 23) (Err (is.Unseen v.place (which v.drawing)))
    (Err (is.Misses v.place (which v.drawing)))))))))))))

name_which : (w : Which) → which (which_number w) ≡ w
name_which First = refl
name_which Second = refl

name : (r : Result ⊤ Fault) → named (verdict r) ≡ r
name (Ok _) = refl
name (Err (is.Pair pair.Unlike)) = refl
name (Err (is.Pair pair.FirstOutOfRange)) = refl
name (Err (is.Pair pair.FirstNotSimple)) = refl
name (Err (is.Pair pair.FirstNotAnticlockwise)) = refl
name (Err (is.Pair pair.SecondOutOfRange)) = refl
name (Err (is.Pair pair.SecondNotSimple)) = refl
name (Err (is.Pair pair.SecondNotAnticlockwise)) = refl
name (Err is.NoList) = refl
name (Err is.NoCutting) = refl
name (Err (is.Unseen place w)) = ap (λ w. Err (is.Unseen place w)) (name_which w)
name (Err (is.Misses place w)) = ap (λ w. Err (is.Misses place w)) (name_which w)

pub verdict_one : (r s : Result ⊤ Fault) → verdict r ≡ verdict s → r ≡ s
verdict_one r s e = sym (name r) ∙ ap named e ∙ name s

pub checked_unique : (first second : List ℤ) (bytes : List ℕ) (r s : Result ⊤ Fault) →
    ChecksList first second bytes (verdict r) → ChecksList first second bytes (verdict s) → r ≡ s
checked_unique first second bytes r s h k =
    verdict_one r s (check_unique first second bytes (verdict r) (verdict s) h k)
