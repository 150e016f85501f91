-- Laws of numbered lines for 01's table: the lines before the last, lines that hold and stand elsewhere, lines with
-- other numbers.
use Rattle.std.specs.Prelude.{◌≡◌, ◌⊎◌, List, [], ◌∷◌, ◌++◌, ℕ, ℤ}
use Rattle.std.proofs.Common.{ap, ◌∙◌, inl, inr, arith}
use Rattle.std.proofs.Math.Logic.{⊎_map}
use Rattle.limits.specs.Limits.{Roomy}
use Rattle.outline.specs.Drawing.{corners}
use Rattle.pair.specs.Pair.{Alike, of_drawings}
use Rattle.rules.specs.Refusals.{Line, line, FirstFailed, Hold, passed, put_in}
use Rattle.desk.specs.Answer.{of_cutting, asked}

-- ---- the table up to its last line
abbrev pub earlier : List ℤ → List ℤ → ℕ → List Line
earlier first second room =
    line 1 (Alike first second) ∷ line 2 (Roomy (corners first) room) ∷ of_drawings first second

-- with number 0 or 9 they hold
pub earlier_hold : (first second : List ℤ) (room k : ℕ) → (k ≡ 0) ⊎ (k ≡ 9) → FirstFailed (asked first second room) k →
    Hold (earlier first second room) × FirstFailed (of_cutting first second) k
earlier_hold first second room k (inl e) = passed (earlier first second room) (of_cutting first second) k (omega arith)
earlier_hold first second room k (inr e) = passed (earlier first second room) (of_cutting first second) k (omega arith)

-- so with number 0 the first line does
pub given_alike : (first second : List ℤ) (room k : ℕ) → k ≡ 0 → FirstFailed (asked first second room) k →
    Alike first second
given_alike first second room k z f = (earlier_hold first second room k (inl z) f).0.0

-- ---- lines that hold are passed, wherever they stand
off : (l m : List Line) (k : ℕ) → Hold l → FirstFailed (l ++ m) k → FirstFailed m k
off [] m k h f = f
off (q ∷ l) m k h (inl f) = absurd (f.0 h.0)
off (q ∷ l) m k h (inr f) = off l m k h.1 f.1

pub under : (p l m : List Line) (k : ℕ) → (FirstFailed l k → FirstFailed m k) →
    FirstFailed (p ++ l) k → FirstFailed (p ++ m) k
under [] l m k f = f
under (q ∷ p) l m k f = ⊎_map (λ g. g) (λ g. (g.0, under p l m k f g.1))

-- so of two runs of lines, one of which holds, either may stand first
pub either_first : (l m r : List Line) (k : ℕ) → Hold l ⊎ Hold m →
    FirstFailed (l ++ (m ++ r)) k → FirstFailed (m ++ (l ++ r)) k
either_first l m r k (inl h) f = under m r (l ++ r) k (put_in l r k h) (off l (m ++ r) k h f)
either_first l m r k (inr h) f = put_in m (l ++ r) k h (under l (m ++ r) r k (off m r k h) f)

-- ---- the same lines with other numbers
module _ (f : ℕ → ℕ) where
  abbrev pub numbered_by : List Line → List Line
  numbered_by [] = []
  numbered_by (q ∷ l) = line (f q.number) q.asks ∷ numbered_by l

  pub other_numbers : f 0 ≡ 0 → (l : List Line) (k : ℕ) → FirstFailed l k → FirstFailed (numbered_by l) (f k)
  other_numbers z [] k = λ h. ap f h ∙ z
  other_numbers z (q ∷ l) k = ⊎_map (λ g. (g.0, ap f g.1)) (λ g. (g.0, other_numbers z l k g.1))
