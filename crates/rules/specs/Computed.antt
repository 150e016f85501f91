-- The cuttings of given corners, computed: the listing of the range 0..n-1 has the valid cuttings, and its pick is the
-- answer.
-- (The theorems that follow are in proofs/, under the same name.)
use Rattle.std.specs.Prelude.{Bool, ℕ, eqb, length}
use mathlib.Core.List.{List}
use Rattle.rules.specs.Cutting.{Tree, leaf, link}

-- ---- tried: five corners, all pairs allowed, pieces of three corners only; and no piece at all
unfoldable pub three? : List ℕ → Bool
three? S = eqb (length S) 3

unfoldable pub fan : Tree
fan = link 1 leaf (link 4 (link 2 leaf (link 4 (link 3 leaf (link 4 leaf leaf)) leaf)) leaf)
