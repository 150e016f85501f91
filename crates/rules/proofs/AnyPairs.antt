-- The theorems of `AnyPairs`: its definitions and first laws are in specs/.
use Rattle.std.specs.Prelude.{◌≡◌, List, ℕ, ◌+◌, ◌-◌, ◌*◌, ◌≤◌, ◌<◌, length}
use Rattle.std.proofs.Common.{⊎_elim}
use native.Mathlib.Omega.{arith}
use Rattle.rules.specs.Lists.{In}
use Rattle.rules.specs.Cutting.{Pairs, Tree, below, told, tree, pieces, run, one}
use Rattle.rules.specs.Centre.{size}
use Rattle.rules.specs.Trees.{Range, weight_one}
use Rattle.rules.proofs.Trees.{weight_told, length_run}
use Rattle.rules.specs.TreeOf.{of_node, tree_of, range_allowed}
use Rattle.rules.specs.Lines.{Piece, top_cases, told_stands}
use Rattle.rules.proofs.Lines.{stands_in}
use Rattle.rules.specs.Walk.{Wide}
use Rattle.rules.specs.AnyPairs.{Shaped, any_cut, any_piece, flat_more, range_shaped, size_flat}

told_shaped : (n i j : ℕ) (t : Tree) → j < n → Range any_cut any_piece i j t →
    (S : List ℕ) → In S (told i t) → Shaped n S
told_shaped n i j t lt h S k =
    ⊎_elim (λ e. rw e.1 (range_shaped n i j t lt h)) (λ q. go (told_stands i t S q)) (top_cases i t (below i t) S k)
  where
    go : Piece i t S → Shaped n S
    go p =
        let q = stands_in any_cut any_piece i j t h.1 p.x p.y p.v p.stands in
        rw p.is (range_shaped n p.x p.y p.v (omega (arith, q.high)) q.range)

module _ {C : Pairs} (w : Wide C) (n : ℕ) (le : 3 ≤ n) where
  tree_any : Range any_cut any_piece 0 (n - 1) (tree n C)
  tree_any =
      let t = tree_of C w.apart n le in
      let k = of_node C 0 (n - 1) (n - 1) (tree n C) (omega arith) t in
      range_allowed C any_cut any_piece n (λ a b t k c lt o. (tt, tt)) 0 (n - 1) (tree n C) k t (omega arith) tt

  pub any_shaped : (S : List ℕ) → In S (pieces n C) → Shaped n S
  unfolding pieces
  any_shaped = told_shaped n 0 (n - 1) (tree n C) (omega arith) tree_any

  -- each corner is told once, and two more numbers for each piece but the first
  pub any_run : length (run n C) + 2 ≡ 2 * length (pieces n C) + n
  unfolding pieces
  any_run =
      omega (
        arith,
        length_run any_cut any_piece 0 (n - 1) (tree n C) tree_any,
        weight_told one any_cut any_piece 0 (n - 1) (tree n C) tree_any,
        weight_one (told 0 (tree n C)),
      )

  pub any_size : size (pieces n C) + 2 ≡ 4 * length (pieces n C) + n
  any_size = omega (arith, size_flat (pieces n C), any_run)

  pub any_few : length (pieces n C) + 2 ≤ n
  any_few = omega (arith, any_run, flat_more (pieces n C) (λ S i. (any_shaped S i).three))

  -- "5n-10 is the most that any cutting of n corners takes"
  pub any_room : size (pieces n C) + 10 ≤ 5 * n
  any_room = omega (arith, any_size, any_few)
