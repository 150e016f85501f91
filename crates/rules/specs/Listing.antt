-- All allowed trees of a range, listed: every one, each once, in the order of the told runs. `cut?` and `ok?` are
-- Boolean tests here, so that the listing of given corners is computed (by `refl`, under `unfolding flat_map`). A
-- `let` and the branches of `elim` wait: what is not allowed costs one test.
-- (The theorems that follow are in proofs/, under the same name.)
use Rattle.std.specs.Prelude.{ℕ}
use mathlib.Core.List.{List, [], ◌∷◌, flat_map}
use Rattle.rules.specs.Cutting.{Tree, leaf, link, Less}
use Rattle.rules.specs.Trees.{run_below, run_line}

-- ---- the order of the runs on a line from a, and of those below it
abbrev pub ByLine : ℕ → Tree → Tree → Type 0
ByLine a t t' = Less (run_line a t) (run_line a t')

abbrev pub ByBelow : ℕ → Tree → Tree → Type 0
ByBelow a t t' = Less (run_below a t) (run_below a t')

-- ---- all trees over one piece: its corners from a on, where g a b lists what may stand on the line a b
abbrev pub ways : (ℕ → ℕ → List Tree) → ℕ → List ℕ → List Tree
ways g a [] = leaf ∷ []
ways g a (b ∷ s) = let rest = ways g b s in flat_map (λ u. flat_map (λ r. link b u r ∷ []) rest) (g a b)
