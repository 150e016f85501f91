-- Lines laid one behind the other.
use mathlib.Core.Path.{◌≡◌, refl, sym, ◌∙◌, ap}
use mathlib.Core.List.{List, [], ◌∷◌, ◌++◌, append-nil}
use Prim.Native.Nat.{ℕ, zero, suc, ◌+◌, ◌≤◌}
use native.Mathlib.Omega.{arith}
use lib.IntN.{ℤ}
use lib.ListN.{length, take, drop, length-append}
use lib.Seq.{length-take-le, take_at, drop_at, drop-drop}
use Rattle.frames.specs.Frames.{Event, pair, fault, answer_line, refusal_line, fault_line}
use Rattle.frames.specs.Answer.{Written}
use Rattle.limits.specs.Limits.{room}
use Rattle.rules.specs.Result.{Result}
use Rattle.desk.specs.Answer.{Answers}
use Rattle.terminal.specs.Terminal.{reply, line_for, Answered, LineOf}
use Rattle.terminal.specs.Longest.{pair_short}
use Rattle.terminal.specs.Running.{Wrote}
use Rattle.terminal.specs.Laying.{Space, Laid}
use Rattle.terminal.specs.Whole.{lines_append}

-- ---- what `frames` writes
laid : (e : Event) (line out out' : List ℕ) (at r : ℕ) → LineOf e line → at + length line ≤ length out →
    Written line out at r out' →
    Laid e out at r out'
laid e line out out' at r is fits w =
    record { line = line; is = is; fits = fits; next = (w.placed fits).0; placed = (w.placed fits).1 }

pub laid_fault : (out out' : List ℕ) (at r : ℕ) → at + length fault_line ≤ length out →
    Written fault_line out at r out' → Laid fault out at r out'
laid_fault out out' at r fits w = laid fault fault_line out out' at r refl fits w

-- the line for what comes back of a pair, by its number
module _ {a b : List ℤ} {before : List ℕ} {x : Result} (roomy : length before ≡ room) (h : Answers a b before x)
    {out out' : List ℕ} {at r : ℕ} (space : Space a out at) where
  laid_pair : (line : List ℕ) → line ≡ line_for x → Written line out at r out' → Laid (pair a b) out at r out'
  laid_pair line e w =
      let is : Answered a b line = record { before = before; result = x; roomy = roomy; answers = h; replied = e } in
      let s = pair_short a b line is in
      laid (pair a b) line out out' at r is (omega (arith, s.at_most, s.own, space)) w

  pub laid_refusal : (x.number ≡ 0 → ⊥) → Written (refusal_line x.number) out at r out' →
      Laid (pair a b) out at r out'
  laid_refusal n w = laid_pair (refusal_line x.number) (refused x.number n) w
    where
      refused : (k : ℕ) → (k ≡ 0 → ⊥) → refusal_line k ≡ reply k x.count (take x.bytes x.after)
      refused zero n = absurd (n refl)
      refused (suc k) n = refl

  pub laid_answer : x.number ≡ 0 → Written (answer_line x.count (take x.bytes x.after)) out at r out' →
      Laid (pair a b) out at r out'
  laid_answer z w = laid_pair (answer_line x.count (take x.bytes x.after)) (rw z) w

-- ---- behind what stands there
pub wrote_none : (out : List ℕ) → Wrote [] out out 0
wrote_none out = record { lines = refl; fits = omega arith; kept = refl }

pub wrote_more : (es : List Event) (e : Event) (before out out' : List ℕ) (len r : ℕ) → Wrote es before out len →
    Laid e out len r out' →
    Wrote (es ++ e ∷ []) before out' r
wrote_more es e before out out' len r w l =
    let k = length l.line in
    let d = drop (len + k) out in
    let sized : length (take len out ++ l.line) ≡ r =
    omega (arith, length-append (take len out) l.line, length-take-le len out w.fits, l.next) in
    let front : take r out' ≡ take len out ++ l.line = rw l.placed (take_at (take len out ++ l.line) d r sized) in
    record {
      lines = rw front (lines_append es (e ∷ []) (take len out) l.line w.lines
          (l.line, [], l.is, refl, sym (append-nil l.line)));
      fits = rw l.placed (omega (arith, length-append (take len out ++ l.line) d, sized));
      kept =
          rw l.placed
          (drop_at (take len out ++ l.line) d r sized ∙ sym (drop-drop k len out) ∙ ap (drop k) w.kept
          ∙ drop-drop k len before
          ∙ ap (λ (n : ℕ). drop n before) (sym l.next));
    }
