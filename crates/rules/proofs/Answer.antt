-- Any table with the Bellman property gives the answer, the first smallest cutting, and where it has no entry no
-- cutting is valid.
use Rattle.std.specs.Prelude.{◌≡◌, refl, List, ℕ, suc, ◌≤◌, length}
use Rattle.std.proofs.Common.{inr, arith}
use Rattle.rules.specs.Cutting.{Pairs, Valid, tree, told, pieces, one, First}
use Rattle.rules.specs.Trees.{weight_one}
use Rattle.rules.proofs.Trees.{weight_told}
use Rattle.rules.specs.Table.{Table, grown}
use Rattle.rules.proofs.Table.{table_best, table_value, table_none}
use Rattle.rules.proofs.Valid.{valid_tree, best_first}
use Rattle.rules.specs.Uses.{uses}

-- for the corners 0 .. m
module _ {cut : ℕ → ℕ → Type 0} {ok : List ℕ → Type 0} {w : ℕ → ℕ → ℕ}
    {may : ℕ → ℕ → Type 0} {val : ℕ → ℕ → ℕ} {choice : ℕ → ℕ → List ℕ} {m : ℕ}
    (big : 2 ≤ m) (table : Table cut ok w may val choice (suc m)) where
  -- the cutting that the table's tree uses comes first, and it is told as the tree is
  pub table_first : may 0 m →
      First cut ok w (suc m) (uses 0 (grown choice 0 m))
      × (pieces (suc m) (uses 0 (grown choice 0 m)) ≡ told 0 (grown choice 0 m))
  table_first h =
      best_first cut ok w m (grown choice 0 m) (table_best table 0 m (omega arith) (omega arith) (inr (refl, refl)) h)

  -- where a cutting is valid the table has an entry
  pub table_refuses : (C : Pairs) → Valid cut ok (suc m) C → may 0 m
  table_refuses C va = table_none table 0 m (omega arith) (omega arith) (inr (refl, refl)) (tree (suc m) C)
      (valid_tree cut ok m C big va)

-- by 01's own rule the table's value is the count of pieces
pub table_count : {cut : ℕ → ℕ → Type 0} {ok : List ℕ → Type 0} {may : ℕ → ℕ → Type 0} {val : ℕ → ℕ → ℕ}
    {choice : ℕ → ℕ → List ℕ} {m : ℕ} →
    2 ≤ m → (table : Table cut ok one may val choice (suc m)) → may 0 m → length (told 0 (grown choice 0 m)) ≡ val 0 m
table_count {cut} {ok} {choice} {m} big table h =
    let fits = (table_best table 0 m (omega arith) (omega arith) (inr (refl, refl)) h).fits in
    omega (
      arith,
      weight_one (told 0 (grown choice 0 m)),
      weight_told one cut ok 0 m (grown choice 0 m) fits,
      table_value table 0 m (omega arith) (omega arith) (inr (refl, refl)) h,
    )
