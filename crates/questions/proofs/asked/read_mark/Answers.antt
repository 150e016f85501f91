-- `asked::read_mark` meets its contract: each part is read where the one before it ends. Where a part is missing, the
-- parts tell so at once.
use Rattle.std.specs.Prelude.{pos, leb, Result, Ok, Err, Some}
use Rattle.std.specs.Result.{result_ok}
use Rattle.std.specs.Int.{w32}
use Rattle.std.proofs.Common.{rules, arith, ◌≡◌, refl, sym, ap, ap₂, ◌∙◌, Bor, List, ℕ, length, get_or, to_z-of_z, SFits}
use Rattle.limits.specs.Limits.{most_numbers}
use Rattle.recorded.specs.Decimals.{after, place, word_start, whole, whole_in, all_tell}
use Rattle.recorded.specs.Counted.{counted_wholes, how_many, list_end}
use Rattle.recorded.specs.Told.{list_told, counted_is}
use Rattle.questions.specs.Questions.{numbers, second_at, mark_at}
use Rattle.questions.proofs.Reading.{is_asked}
use Rattle.questions.proofs.asked.read_mark.Goals as goal

-- how many, and where the text goes on, by the longest list
count_is : (line text : List ℕ) (at p n : ℕ) {r : _} → text ≡ line → p ≡ at → n ≡ most_numbers →
    result_ok (counted_wholes text p n) ≡ r → result_ok (counted_wholes line at most_numbers) ≡ r
count_is line text at p n t e m q =
    ap result_ok (sym (ap₂ (λ u k. counted_wholes u k n) t e ∙ ap (counted_wholes line at) m)) ∙ q

-- a list that was read told how many it has
told_count : (r : Result ℕ ℕ) (n : ℕ) → result_ok r ≡ Some n → n ≡ how_many r
told_count (Ok k) n e = cc
told_count (Err k) n e = absurd (cc)

end_is : (line text : List ℕ) (at p n q : ℕ) → text ≡ line → p ≡ at → n ≡ most_numbers → q ≡ list_end text p n →
    q ≡ list_end line at most_numbers
end_is line text at p n q t e m g = g ∙ ap₂ (λ u k. list_end u k n) t e ∙ ap (list_end line at) m

pub returns : goal.returns
returns c =
    let line = c.args.words.text.now in
    let at = c.args.words.at in
    let a = c.list.ensures in
    let b = c.list-2.ensures in
    let m = c.fill.ensures in
    let text₁ : c.list.new.self.text.now ≡ line = ap (λ (t : Bor (List ℕ)). t.now) a.place.same_text in
    let text₂ : c.list-2.new.self.text.now ≡ line = ap (λ (t : Bor (List ℕ)). t.now) b.place.same_text ∙ text₁ in
    let text₃ : c.fill.new.self.text.now ≡ line = ap (λ (t : Bor (List ℕ)). t.now) m.place.same_text ∙ text₂ in
    let room₁ : length c.args.first.now ≡ most_numbers = omega arith in
    let room₂ : length c.args.second.now ≡ most_numbers = omega arith in
    let at₁ : c.list.new.self.at ≡ second_at line at = a.place.place ∙ ap (list_end line at) room₁ in
    let at₂ : c.list-2.new.self.at ≡ mark_at line at = end_is line _ _ _ _ _ text₁ at₁ room₂ b.place.place in
    let at₃ : c.fill.new.self.at ≡ place line (mark_at line at) 2 =
    m.place.place ∙ ap₂ (λ t p. place t p 2) text₂ at₂ in
    let a_is = ap result_ok (sym a.value) ∙ sym c.ok.ensures.value ∙ c.in_ok-a.was in
    let b_is = ap result_ok (sym b.value) ∙ sym c.ok-2.ensures.value ∙ c.in_ok-b.was in
    let first =
    list_told line at c.args.first.now c.list.new.out a.holds c.in_ok-a.a
    (told_count _ _ a_is ∙ counted_is line at (length c.args.first.now)) (search rules) in
    let second =
    list_told c.list.new.self.text.now c.list.new.self.at c.args.second.now c.list-2.new.out b.holds c.in_ok-b.b
    (told_count _ _ b_is ∙ counted_is _ _ (length c.args.second.now)) (search rules)
    ∙ ap₂ (λ t p. numbers t (after t p) c.in_ok-b.b) text₁ at₁ in
    let x_fits : SFits w32 (get_or c.fill.new.out 0 (pos 0)) = search rules in
    let y_fits : SFits w32 (get_or c.fill.new.out 1 (pos 0)) = search rules in
    let x = to_z-of_z x_fits ∙ m.holds.each 0 (omega arith) ∙ ap₂ (λ t p. whole_in t p 0) text₂ at₂ in
    let y = to_z-of_z y_fits ∙ m.holds.each 1 (omega arith) ∙ ap₂ (λ t p. whole_in t p 1) text₂ at₂ in
    let all = sym (m.value ∙ ap₂ (λ t p. all_tell whole t p 2) text₂ at₂) ∙ c.in_ok-fill.was in
    let ends = sym (c.if-not-is_done.ensures.value ∙ ap₂ (λ t p. leb (length t) (word_start t p)) text₃ at₃) in
    is_asked line at c.in_ok-a.a c.in_ok-b.b _ _ _ _ (count_is line line at at _ refl refl room₁ a_is)
    (count_is line _ _ _ _ text₁ at₁ room₂ b_is) all ends first second x y
