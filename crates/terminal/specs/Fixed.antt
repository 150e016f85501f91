-- The statements of the public calls fix their results and every byte lent: no second result and no second buffer
-- satisfies them.
use Rattle.std.specs.Prelude.{Result, Ok, Err}
use Rattle.terminal.specs.Going.{Session}
use Rattle.terminal.specs.declared.Ran.{Ran}
use Rattle.terminal.specs.declared.Short.{Short}
use Rattle.std.specs.Prelude.{◌≡◌, refl, List, ◌++◌, ℕ, ℤ, length, take, drop}
use Rattle.std.proofs.Common.{sym, ◌∙◌, ap, ap₂, arith, take-append-drop, length-take}
use Rattle.frames.specs.Frames.{Event}
use Rattle.terminal.specs.Unique.{lines_unique}
use Rattle.terminal.specs.Going.{goes, at_end}
use Rattle.terminal.specs.Running.{opened, Wrote, Runs, Finishes}

-- `open`
pub open_unique : (s s' : Session) → s ≡ opened → s' ≡ opened → s ≡ s'
open_unique s s' e e' = e ∙ sym e'

wrote_len : (es : List Event) (before x y : List ℕ) (m n : ℕ) → Wrote es before x m → Wrote es before y n → m ≡ n
wrote_len es before x y m n v w =
    omega (
      arith,
      ap length (lines_unique es (take m x) (take n y) v.lines w.lines),
      length-take m x,
      length-take n y,
      v.fits,
      w.fits,
    )

wrote_out : (es : List Event) (before x y : List ℕ) (m n : ℕ) → Wrote es before x m → Wrote es before y n → x ≡ y
wrote_out es before x y m n v w =
    sym (take-append-drop m x)
    ∙ ap₂ ◌++◌ (lines_unique es (take m x) (take n y) v.lines w.lines)
    (v.kept ∙ ap (λ (k : ℕ). drop k before) (wrote_len es before x y m n v w) ∙ sym w.kept)
    ∙ take-append-drop n y

abbrev done : Session → ℕ → Result Ran Short
done s len = Ok (record { session = s; len = len })

module _ (s : Session) (f g : List ℤ) (chunk before : List ℕ) where
  -- the result, the drawings' buffers and the output's
  pub record Same (r r' : Result Ran Short) (f₁ f₂ g₁ g₂ : List ℤ) (x y : List ℕ) : Type 0 where
    pub result_is : r ≡ r'
    pub first_is : f₁ ≡ f₂
    pub second_is : g₁ ≡ g₂
    pub out_is : x ≡ y

  pub run_unique : (r r' : Result Ran Short) (f₁ f₂ g₁ g₂ : List ℤ) (x y : List ℕ) →
      Runs s f g chunk before f₁ g₁ x r →
      Runs s f g chunk before f₂ g₂ y r' → Same r r' f₁ f₂ g₁ g₂ x y
  run_unique (Ok p) (Ok q) f₁ f₂ g₁ g₂ x y h k = record {
    result_is =
        ap₂ done (h.session_is ∙ sym k.session_is)
        (wrote_len (goes s f g chunk).events before x y p.len q.len h.wrote k.wrote);
    first_is = h.first_is ∙ sym k.first_is;
    second_is = h.second_is ∙ sym k.second_is;
    out_is = wrote_out (goes s f g chunk).events before x y p.len q.len h.wrote k.wrote;
  }
  run_unique (Ok p) (Err _) f₁ f₂ g₁ g₂ x y h k = absurd (k.little h.lent)
  run_unique (Err _) (Ok q) f₁ f₂ g₁ g₂ x y h k = absurd (h.little k.lent)
  run_unique (Err _) (Err _) f₁ f₂ g₁ g₂ x y h k = record {
    result_is = refl;
    first_is = h.first_kept ∙ sym k.first_kept;
    second_is = h.second_kept ∙ sym k.second_kept;
    out_is = h.out_kept ∙ sym k.out_kept;
  }

pub finish_unique : (s : Session) (before x y : List ℕ) (r r' : Result Ran Short) →
    Finishes s before x r → Finishes s before y r' →
    (r ≡ r') × (x ≡ y)
finish_unique s before x y (Ok p) (Ok q) h k = (
  ap₂ done (h.over ∙ sym k.over) (wrote_len (at_end s) before x y p.len q.len h.wrote k.wrote),
  wrote_out (at_end s) before x y p.len q.len h.wrote k.wrote,
)
finish_unique s before x y (Ok p) (Err _) h k = absurd (k.0 h.lent)
finish_unique s before x y (Err _) (Ok q) h k = absurd (h.0 k.lent)
finish_unique s before x y (Err _) (Err _) h k = (refl, h.1 ∙ sym k.1)
