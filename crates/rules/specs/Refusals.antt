-- Numbered lines: document 01, "What comes back": "Checks run in the order of this table." A line is a number and what
-- it asks. The number that is given is that of the first line that fails, and 0 where none does. (Later tables have
-- numbers that are no places in a list.) `Line` and `FirstFailed` have to be believed; the laws say what a number
-- shows of the lines.
use Rattle.std.specs.Prelude.{◌≡◌, refl, ◌⊎◌, ◌↔◌, List, [], ◌∷◌, ◌++◌, ℕ, ◌<◌}
use Rattle.std.proofs.Common.{sym, ◌∙◌, inl, inr, arith}
use Rattle.rules.specs.Lists.{In}

pub record Line : Type 1 where
  pub number : ℕ
  pub asks : Type 0

abbrev pub line : ℕ → Type 0 → Line
line k P = record { number = k; asks = P }

-- "Given exactly when no earlier line applies and": a line applies where what it asks fails; "0 | otherwise"
abbrev pub FirstFailed : List Line → ℕ → Type 0
FirstFailed [] k = k ≡ 0
FirstFailed (q ∷ l) k = ((¬ q.asks) × (k ≡ q.number)) ⊎ (q.asks × FirstFailed l k)

-- no second number
pub failed_unique : (l : List Line) (k k' : ℕ) → FirstFailed l k → FirstFailed l k' → k ≡ k'
failed_unique [] k k' h h' = h ∙ sym h'
failed_unique (q ∷ l) k k' (inl h) (inl h') = h.1 ∙ sym h'.1
failed_unique (q ∷ l) k k' (inl h) (inr h') = absurd (h.0 h'.0)
failed_unique (q ∷ l) k k' (inr h) (inl h') = absurd (h'.0 h.0)
failed_unique (q ∷ l) k k' (inr h) (inr h') = failed_unique l k k' h.1 h'.1

-- ---- what a number shows
-- all of some lines hold
abbrev pub Hold : List Line → Type 0
Hold [] = Unit {0}
Hold (q ∷ l) = q.asks × Hold l

-- none of some lines has the number k
abbrev pub Absent : ℕ → List Line → Type 0
Absent k [] = Unit {0}
Absent k (q ∷ l) = (¬ (k ≡ q.number)) × Absent k l

-- lines that do not have the number hold, and those after them decide
pub passed : (l m : List Line) (k : ℕ) → Absent k l → FirstFailed (l ++ m) k → Hold l × FirstFailed m k
passed [] m k n f = (tt, f)
passed (q ∷ l) m k n (inl h) = absurd (n.0 h.1)
passed (q ∷ l) m k n (inr h) = let p = passed l m k n.1 h.1 in ((h.0, p.0), p.1)

-- lines that hold may stand before others
pub put_in : (l m : List Line) (k : ℕ) → Hold l → FirstFailed m k → FirstFailed (l ++ m) k
put_in [] m k h f = f
put_in (q ∷ l) m k h f = inr (h.0, put_in l m k h.1 f)

-- where a line has failed, those after it are not asked
pub longer : (l m : List Line) (k : ℕ) → 0 < k → FirstFailed l k → FirstFailed (l ++ m) k
longer [] m k lt f = absurd (omega arith)
longer (q ∷ l) m k lt (inl h) = inl h
longer (q ∷ l) m k lt (inr h) = inr (h.0, longer l m k lt h.1)

-- with number 0 all lines hold, if no line has that number
pub all_hold : (l : List Line) → Absent 0 l → FirstFailed l 0 → Hold l
all_hold [] n f = tt
all_hold (q ∷ l) n (inl h) = absurd (n.0 h.1)
all_hold (q ∷ l) n (inr h) = (h.0, all_hold l n.1 h.1)

-- another number is that of a line
abbrev pub numbers : List Line → List ℕ
numbers [] = []
numbers (q ∷ l) = q.number ∷ numbers l

pub among : (l : List Line) (k : ℕ) → FirstFailed l k → (k ≡ 0) ⊎ In k (numbers l)
among [] k f = inl f
among (q ∷ l) k (inl h) = inr (inl h.1)
among (q ∷ l) k (inr h) = go (among l k h.1)
  where
    go : (k ≡ 0) ⊎ In k (numbers l) → (k ≡ 0) ⊎ In k (numbers (q ∷ l))
    go (inl e) = inl e
    go (inr i) = inr (inr i)

-- ---- lines that ask the same, each where those before it hold, give the same number
pub data SameAsked : List Line → List Line → Type 1 where
  end : SameAsked [] []
  same : {P Q : Type 0} {i : ℕ} {k l : List Line} → P ↔ Q → (P → SameAsked k l) →
      SameAsked (line i P ∷ k) (line i Q ∷ l)

pub same_failed : {k l : List Line} → SameAsked k l → (number : ℕ) → FirstFailed k number → FirstFailed l number
same_failed end number f = f
same_failed (same e rest) number (inl f) = inl ((λ q. f.0 (e.1 q)), f.1)
same_failed (same e rest) number (inr f) = inr (e.0 f.0, same_failed (rest f.0) number f.1)

-- ---- tried: three lines, of which the second has a number above the third's
sample : Type 0 → Type 0 → Type 0 → List Line
sample P Q R = line 1 P ∷ line 11 Q ∷ line 2 R ∷ []

sample_eleven : (P Q R : Type 0) → P → ¬ Q → FirstFailed (sample P Q R) 11
unfolding sample
sample_eleven P Q R p n = inr (p, inl (n, refl))

sample_two : (P Q R : Type 0) (k : ℕ) → k ≡ 2 → FirstFailed (sample P Q R) k → P × Q
unfolding sample
sample_two P Q R k e f =
    let h = passed (line 1 P ∷ line 11 Q ∷ []) (line 2 R ∷ []) k (omega arith) f in
    (h.0.0, h.0.1.0)
