-- There is exactly one output for each input: one as soon as each pair has an answer, and no second, for what comes
-- back for a pair does not hang on what the room held before.
use Rattle.std.specs.Prelude.{◌≡◌, refl, List, [], ◌∷◌, ◌++◌, ℕ, ℤ, length}
use Rattle.std.proofs.Common.{sym, ◌∙◌, ap, ap₂, subst}
use Rattle.limits.specs.Limits.{room}
use Rattle.rules.specs.Refusals.{FirstFailed}
use Rattle.rules.specs.Result.{Result}
use Rattle.rules.specs.OtherBuffer.{moved, comes_back_moved, same_bytes}
use Rattle.frames.specs.Frames.{Event, pair, fault, events, fault_line}
use Rattle.desk.specs.Answer.{asked, Answers}
use Rattle.desk.specs.Unique.{answer_unique}
use Rattle.terminal.specs.Terminal.{reply, line_for, Answered, LineOf, Lines, Output}

answered_unique : (a b : List ℤ) (x y : List ℕ) → Answered a b x → Answered a b y → x ≡ y
answered_unique a b x y p q =
    p.replied ∙ ap line_for same ∙ ap (reply s.number s.count) (same_bytes p.before s q.answers)
    ∙ sym q.replied
  where
    s : Result
    s = q.result

    -- what comes back for the one in the other's room
    elsewhere : Answers a b p.before (moved s p.before)
    elsewhere =
        comes_back_moved (asked a b (length p.before)) p.before s q.answers
        (subst (λ (k : ℕ). FirstFailed (asked a b k) s.number) (q.roomy ∙ sym p.roomy) q.answers.numbered)

    same : p.result ≡ moved s p.before
    same = answer_unique a b p.before p.result (moved s p.before) p.answers elsewhere

line_unique : (e : Event) (x y : List ℕ) → LineOf e x → LineOf e y → x ≡ y
line_unique (pair a b) x y h k = answered_unique a b x y h k
line_unique fault x y h k = h ∙ sym k

pub lines_unique : (es : List Event) (x y : List ℕ) → Lines es x → Lines es y → x ≡ y
lines_unique [] x y h k = h ∙ sym k
lines_unique (e ∷ es) x y h k =
    h.4 ∙ ap₂ ◌++◌ (line_unique e h.0 k.0 h.2 k.2)
    (lines_unique es h.1 k.1 h.3 k.3) ∙ sym k.4

pub output_unique : (input x y : List ℕ) → Output input x → Output input y → x ≡ y
output_unique input x y h k = lines_unique (events input) x y h k

-- ---- and there is one, where something comes back for each pair
module _ (before : List ℕ) (roomy : length before ≡ room)
    (comes : (a b : List ℤ) → (r : Result) × Answers a b before r) where
  line_exists : (e : Event) → (line : List ℕ) × LineOf e line
  line_exists (pair a b) =
      let c = comes a b in
      (line_for c.0, record { before = before; result = c.0; roomy = roomy; answers = c.1; replied = refl })
  line_exists fault = (fault_line, refl)

  lines_exist : (es : List Event) → (out : List ℕ) × Lines es out
  lines_exist [] = ([], refl)
  lines_exist (e ∷ es) =
      let l = line_exists e in
      let m = lines_exist es in
      (l.0 ++ m.0, (l.0, m.0, l.1, m.1, refl))

  pub output_exists : (input : List ℕ) → (out : List ℕ) × Output input out
  output_exists input = lines_exist (events input)
