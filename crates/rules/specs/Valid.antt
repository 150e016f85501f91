-- Valid cuttings and allowed trees are the same thing; so the order of trees is that of cuttings.
-- Of two different cuttings the told runs differ and one comes first; the lightest that comes first is one and no
-- other.
-- (The theorems that follow are in proofs/, under the same name.)
use Rattle.std.specs.Prelude.{◌≡◌, refl, Bool, true, false, ◌↔◌, List, ℕ, ◌≤◌, ◌<◌, length, T}
use Rattle.std.proofs.Math.Path.{ap}
use Rattle.rules.specs.Lists.{In, Rising}
use Rattle.rules.specs.Cutting.{Pairs, Inner, Valid}
use Rattle.rules.specs.Cutting.{pieces}
use Rattle.rules.specs.Cutting.{First}

-- ---- a set of uncrossed pairs is what its tree uses
abbrev pub SamePairs : Pairs → Pairs → Type 0
SamePairs C D = (a b : ℕ) → T (C a b) ↔ T (D a b)

-- two sets of the same pairs are one set
pub same_set : (C D : Pairs) → SamePairs C D → C ≡ D
same_set C D h i a b = same (C a b) (D a b) (h a b) i
  where
    same : (p q : Bool) → T p ↔ T q → p ≡ q
    same true true e = refl
    same true false e = absurd (e.0 tt)
    same false true e = absurd (e.1 tt)
    same false false e = refl

-- and have the same pieces
pub same_pieces : (n : ℕ) (C D : Pairs) → SamePairs C D → pieces n C ≡ pieces n D
same_pieces n C D h = ap (pieces n) (same_set C D h)

-- ---- rules that allow the same
-- whatever `cut` and `ok` allow of n corners, `cut'` and `ok'` allow
pub record Allows (n : ℕ) (cut cut' : ℕ → ℕ → Type 0) (ok ok' : List ℕ → Type 0) : Type 0 where
  pub cuts : (a b : ℕ) → Inner n a b → cut a b → cut' a b
  pub lists : (S : List ℕ) → Rising S → ((x : ℕ) → In x S → x < n) → 3 ≤ length S → ok S → ok' S

pub valid_map : (n : ℕ) (cut cut' : ℕ → ℕ → Type 0) (ok ok' : List ℕ → Type 0) (C : Pairs) →
    Allows n cut cut' ok ok' → Valid cut ok n C → Valid cut' ok' n C
valid_map n cut cut' ok ok' C A va = record {
  uncrossed = va.uncrossed;
  cuts = λ a b c. A.cuts a b (va.uncrossed.inner a b c) (va.cuts a b c);
  allowed = λ S R. A.lists S R.rising R.small R.three (va.allowed S R);
}

pub first_map : (n : ℕ) (cut cut' : ℕ → ℕ → Type 0) (ok ok' : List ℕ → Type 0) (w : ℕ → ℕ → ℕ) (C : Pairs) →
    Allows n cut cut' ok ok' → Allows n cut' cut ok' ok → First cut ok w n C → First cut' ok' w n C
first_map n cut cut' ok ok' w C A A' h = record {
  valid = valid_map n cut cut' ok ok' C A h.valid;
  least = λ D va. h.least D (valid_map n cut' cut ok' ok D A' va);
  first = λ D va. h.first D (valid_map n cut' cut ok' ok D A' va);
}
