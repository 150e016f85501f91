-- `asked::read` meets its contract.
use Rattle.std.proofs.Common.{◌≡◌, sym, subst, ap, ap₂, ◌∙◌, Bor, List, ℕ, Option}
use Rattle.recorded.specs.Decimals.{natural, first_word, after}
use Rattle.questions.specs.Questions.{mark_question}
use Rattle.questions.specs.Parts.{Means}
use Rattle.questions.proofs.Reading.{too_long, no_kind, other_kind, asks_mark}
use Rattle.questions.proofs.asked.read.Goals as goal

-- the first number, by what the words began with
kind_is : (text line : List ℕ) (at : ℕ) (r : Option ℕ) → text ≡ line → at ≡ 0 → r ≡ natural (first_word text at) →
    r ≡ natural (first_word line 0)
kind_is text line at r t p e = e ∙ ap₂ (λ u k. natural (first_word u k)) t p

pub returns-then-line-ge-LINE_LIMIT : goal.returns-then-line-ge-LINE_LIMIT
returns-then-line-ge-LINE_LIMIT c = too_long c.args.line.now c.if-line-ge-LINE_LIMIT.true

pub returns-in_err-natural : goal.returns-in_err-natural
returns-in_err-natural c =
    let w = c.new-words.ensures in
    let kind = kind_is _ c.args.line.now _ _ w.text w.place c.natural.ensures.value in
    rw (c.from_residual.ensures) (no_kind c.args.line.now (sym kind ∙ c.in_err-natural.was))

pub returns-then-branch-ne-MARK : goal.returns-then-branch-ne-MARK
returns-then-branch-ne-MARK c =
    let w = c.new-words.ensures in
    let kind = kind_is _ c.args.line.now _ _ w.text w.place c.natural.ensures.value in
    other_kind c.args.line.now _ (sym kind ∙ c.in_ok-natural.was) c.if-branch-ne-MARK.true

pub returns : goal.returns
returns c =
    let w = c.new-words.ensures in
    let line = c.args.line.now in
    let r = c.read_mark in
    let goes = c.natural.ensures.place in
    let kind = kind_is _ line _ _ w.text w.place c.natural.ensures.value in
    let text : c.natural.new.self.text.now ≡ line = ap (λ (t : Bor (List ℕ)). t.now) goes.same_text ∙ w.text in
    let at : c.natural.new.self.at ≡ after line 0 = goes.place ∙ ap₂ after w.text w.place in
    let same =
    asks_mark line _ c.if-line-ge-LINE_LIMIT.false (sym kind ∙ c.in_ok-natural.was) c.if-branch-ne-MARK.false in
    subst (λ q. Means q r.result) (ap₂ mark_question text at ∙ sym same) r.ensures
