-- A line as it is read: what it asks, or that it is no question.
use Rattle.std.specs.Prelude.{◌≡◌, refl, Bool, true, false, cond, List, ℕ, ◌<◌, ◌≤◌, ℤ, length, Option, Some, None, unwrap_or}
use Rattle.std.specs.Result.{result_ok}
use Rattle.std.proofs.Common.{sym, ap, ◌∙◌}
use Rattle.std.proofs.lemmas.Bool.{lt-ltb, le-ltb}
use borrow.Author.Tests.{eq-eqb, ne_eqb}
use Rattle.limits.specs.Limits.{most_numbers}
use Rattle.recorded.specs.Decimals.{natural, first_word, after, whole, whole_in, all_numbers, all_tell}
use Rattle.recorded.specs.Counted.{no_number, counted_wholes}
use Rattle.questions.specs.Questions.{Question, mark_asked, line_limit, numbers, second_at, mark_at, ends}
use Rattle.questions.specs.Questions.{asks, mark_question, question}

-- ---- a mark asked for, read part by part
all_told : (b : Bool) → cond b (Some (tt {0})) None ≡ Some (tt {0}) → b ≡ true
all_told true e = refl
all_told false e = absurd (cc)

module _ (line : List ℕ) (at a b : ℕ) (first second : List ℤ) (x y : ℤ) where
  pub is_asked : result_ok (counted_wholes line at most_numbers) ≡ Some a →
      result_ok (counted_wholes line (second_at line at) most_numbers) ≡ Some b →
      all_tell whole line (mark_at line at) 2 ≡ Some (tt {0}) → ends line at ≡ true →
      first ≡ numbers line (after line at) a → second ≡ numbers line (after line (second_at line at)) b →
      x ≡ whole_in line (mark_at line at) 0 → y ≡ whole_in line (mark_at line at) 1 →
      mark_question line at ≡ Some (mark_asked first second x y)
  is_asked ea eb em ee ef es ex ey =
      let all : all_numbers whole line (mark_at line at) 2 ≡ true = all_told _ em in
      rw (ea, eb, all, ee) (λ i. Some (mark_asked (sym ef i) (sym es i) (sym ex i) (sym ey i)))

-- ---- the first number, and how long the line is
either_none : (b : Bool) (q : Option Question) → q ≡ None → cond b q None ≡ None
either_none true q e = e
either_none false q e = refl

pub too_long : (line : List ℕ) → line_limit ≤ length line → question line ≡ None
unfolding question
too_long line h = rw (le-ltb (length line) line_limit h)

pub no_kind : (line : List ℕ) → natural (first_word line 0) ≡ None → question line ≡ None
unfolding question
no_kind line e = either_none _ _ (ap (λ (k : Option ℕ). asks line (unwrap_or k no_number) (after line 0)) e)

pub other_kind : (line : List ℕ) (k : ℕ) → natural (first_word line 0) ≡ Some k → ¬ (k ≡ 1) → question line ≡ None
unfolding question
other_kind line k e n =
    either_none _ _ (ap (λ (k : Option ℕ). asks line (unwrap_or k no_number) (after line 0)) e
    ∙ rw (ne_eqb k 1 n))

pub asks_mark : (line : List ℕ) (k : ℕ) → length line < line_limit → natural (first_word line 0) ≡ Some k → k ≡ 1 →
    question line ≡ mark_question line (after line 0)
unfolding question
asks_mark line k h e one =
    rw (lt-ltb (length line) line_limit h)
    (ap (λ (k : Option ℕ). asks line (unwrap_or k no_number) (after line 0)) e ∙ rw (eq-eqb k 1 one))
