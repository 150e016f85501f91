-- The cuts that a tree uses, as a set of pairs: the lines of the tree that are no sides, without the closing line of
-- the whole. They are uncrossed, and the tree is that of its cuts.
-- (The theorems that follow are in proofs/, under the same name.)
use Rattle.std.specs.Prelude.{◌≡◌, refl, Bool, true, false, ◌&&◌, ◌||◌, ℕ, T, eqb}
use Rattle.std.proofs.Common.{inl, inr, ⊎_elim, eqb→eq}
use Rattle.std.proofs.Math.Dec.{eqb_refl}
use Rattle.std.proofs.Math.Facts.{and_yes, yes_and, or_yes}
use Rattle.rules.specs.Cutting.{Pairs, Tree, leaf, link}
use Rattle.rules.specs.Trees.{Node}
use Rattle.rules.specs.Lines.{Stands}

-- x y is the line a b, and that is no side
abbrev pub is_line : ℕ → ℕ → Tree → Pairs
is_line a b leaf x y = false
is_line a b (link c u r) x y = eqb x a && eqb y b

abbrev pub uses : ℕ → Tree → Pairs
uses a leaf x y = false
uses a (link b u r) x y = is_line a b u x y || (uses a u x y || uses b r x y)

-- ---- a pair is used if something stands on it
or_left : (p q : Bool) → T p → T (p || q)
or_left true q h = tt
or_left false q h = absurd h

or_right : (p q : Bool) → T q → T (p || q)
or_right true q h = tt
or_right false q h = h

pub uses_stands : (a : ℕ) (t : Tree) (x y : ℕ) → T (uses a t x y) → (v : Tree) × Stands a t x y v
uses_stands a leaf x y h = absurd h
uses_stands a (link b u r) x y h =
    ⊎_elim (λ k. (u, inl (line u k)))
    (λ k. ⊎_elim (λ q. under (uses_stands a u x y q)) (λ q. rest (uses_stands b r x y q))
    (or_yes (uses a u x y) (uses b r x y) k))
    (or_yes (is_line a b u x y) (uses a u x y || uses b r x y) h)
  where
    under : (v : Tree) × Stands a u x y v → (v : Tree) × Stands a (link b u r) x y v
    under s = (s.0, inr (inl s.1))

    rest : (v : Tree) × Stands b r x y v → (v : Tree) × Stands a (link b u r) x y v
    rest s = (s.0, inr (inr s.1))

    line : (w : Tree) → T (is_line a b w x y) → Node w × (x ≡ a) × (y ≡ b) × (w ≡ w)
    line leaf k = absurd k
    line (link c v s) k = let p = and_yes (eqb x a) (eqb y b) k in (tt, eqb→eq x a p.0, eqb→eq y b p.1, refl)

pub stands_uses : (a : ℕ) (t : Tree) (x y : ℕ) (v : Tree) → Stands a t x y v → T (uses a t x y)
stands_uses a leaf x y v h = h
stands_uses a (link b u r) x y v (inl h) = or_left (is_line a b u x y) _ (line u h.0)
  where
    line : (w : Tree) → Node w → T (is_line a b w x y)
    line leaf k = absurd k
    line (link c w s) k = rw (h.1, h.2) (yes_and (eqb a a) (eqb b b) (eqb_refl a) (eqb_refl b))
stands_uses a (link b u r) x y v (inr (inl h)) =
    or_right (is_line a b u x y) _ (or_left (uses a u x y) (uses b r x y) (stands_uses a u x y v h))
stands_uses a (link b u r) x y v (inr (inr h)) =
    or_right (is_line a b u x y) _ (or_right (uses a u x y) (uses b r x y) (stands_uses b r x y v h))
