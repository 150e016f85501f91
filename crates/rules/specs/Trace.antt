-- A traced set is the cutting of the table's tree, and so the answer.
-- (The theorems that follow are in proofs/, under the same name.)
use Rattle.std.specs.Prelude.{Bool, true, false, ◌||◌, List, [], ◌∷◌, ℕ, T, eqb}
use Rattle.std.proofs.Common.{sym, inl, inr}
use Rattle.std.proofs.Math.Dec.{eqb_refl}
use Rattle.std.proofs.Math.Facts.{yes_and}
use Rattle.rules.specs.Cutting.{Tree, leaf, link}
use Rattle.rules.specs.Trees.{Node}
use Rattle.rules.specs.Table.{walk}
use Rattle.rules.specs.Uses.{is_line, uses}
use Rattle.rules.specs.Traced.{LineOfRoad}

or_left : (p q : Bool) → T p → T (p || q)
or_left true q h = tt
or_left false q h = absurd h

or_right : (p q : Bool) → T q → T (p || q)
or_right true q h = tt
or_right false q h = h

-- a tree along a road uses its lines, and what stands under them
pub on_uses : (g : ℕ → ℕ → Tree) (a : ℕ) (s : List ℕ) (c d : ℕ) → LineOfRoad a s c d →
    (Node (g c d) → T (uses a (walk g a s) c d)) × ((p q : ℕ) → T (uses c (g c d) p q) → T (uses a (walk g a s) p q))
on_uses g a [] c d h = absurd h
on_uses g a (b ∷ s) c d (inl e) =
    rw (sym e.0, sym e.1) (
      λ k. or_left (is_line c d (g c d) c d) (uses c (g c d) c d || uses d (walk g d s) c d) (line (g c d) k),
      λ p q k. or_right (is_line c d (g c d) p q) (uses c (g c d) p q || uses d (walk g d s) p q)
          (or_left (uses c (g c d) p q) (uses d (walk g d s) p q) k),
    )
  where
    line : (u : Tree) → Node u → T (is_line c d u c d)
    line leaf k = absurd k
    line (link x v r) k = yes_and (eqb c c) (eqb d d) (eqb_refl c) (eqb_refl d)
on_uses g a (b ∷ s) c d (inr h) =
    let q = on_uses g b s c d h in (
      λ k. deep c d (q.0 k),
      λ x y k. deep x y (q.1 x y k),
    )
  where
    deep : (x y : ℕ) → T (uses b (walk g b s) x y) → T (uses a (walk g a (b ∷ s)) x y)
    deep x y k =
        or_right (is_line a b (g a b) x y) (uses a (g a b) x y || uses b (walk g b s) x y)
        (or_right (uses a (g a b) x y) (uses b (walk g b s) x y) k)
