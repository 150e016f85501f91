-- The lines of a tree, and what stands on them. The pieces told below a chain are those that stand on its lines, and
-- each is told once; in an allowed tree the lines do not cross.
-- (The theorems that follow are in proofs/, under the same name.)
use Rattle.std.specs.Prelude.{◌≡◌, refl, ◌⊎◌, List, ◌∷◌, ℕ}
use Rattle.std.proofs.Common.{inl, inr, ⊎_elim}
use Rattle.rules.specs.Lists.{In, in_left, in_right, in_split}
use Rattle.rules.specs.Cutting.{Tree, leaf, link, corners, topped, below, told}
use Rattle.rules.specs.Trees.{Node}

-- v, no side, stands on the line x y under the chain t from a
abbrev pub Stands : ℕ → Tree → ℕ → ℕ → Tree → Type 0
Stands a leaf x y v = ⊥
Stands a (link b u r) x y v = (Node u × (x ≡ a) × (y ≡ b) × (v ≡ u)) ⊎ (Stands a u x y v ⊎ Stands b r x y v)

-- ---- the pieces told below a chain are those on its lines
pub node_told : (a : ℕ) (t : Tree) → Node t → told a t ≡ (a ∷ corners t) ∷ below a t
node_told a leaf k = absurd k
node_told a (link b u r) k = refl

pub top_told : (a : ℕ) (u : Tree) (l : List (List ℕ)) → Node u → In (a ∷ corners u) (topped a u l)
top_told a leaf l k = absurd k
top_told a (link b u r) l k = inl refl

pub below_told : (a : ℕ) (u : Tree) (S : List ℕ) → In S (below a u) → In S (told a u)
below_told a leaf S i = i
below_told a (link b u r) S i = inr i

pub stands_told : (a : ℕ) (t : Tree) (x y : ℕ) (v : Tree) → Stands a t x y v → In (x ∷ corners v) (below a t)
stands_told a leaf x y v h = h
stands_told a (link b u r) x y v (inl h) =
    in_left (x ∷ corners v) (told a u) (below b r) (rw (h.1, h.3) (top_told a u (below a u) h.0))
stands_told a (link b u r) x y v (inr (inl h)) =
    in_left (x ∷ corners v) (told a u) (below b r) (below_told a u _ (stands_told a u x y v h))
stands_told a (link b u r) x y v (inr (inr h)) =
    in_right (x ∷ corners v) (told a u) (below b r) (stands_told b r x y v h)

-- S is the piece on a line under the chain
pub record Piece (a : ℕ) (t : Tree) (S : List ℕ) : Type 0 where
  pub x : ℕ
  pub y : ℕ
  pub v : Tree
  pub stands : Stands a t x y v
  pub is : S ≡ x ∷ corners v

pub top_cases : (a : ℕ) (u : Tree) (l : List (List ℕ)) (S : List ℕ) → In S (topped a u l) →
    (Node u × (S ≡ a ∷ corners u)) ⊎ In S l
top_cases a leaf l S i = absurd i
top_cases a (link b u r) l S (inl e) = inl (tt, e)
top_cases a (link b u r) l S (inr i) = inr i

pub told_stands : (a : ℕ) (t : Tree) (S : List ℕ) → In S (below a t) → Piece a t S
told_stands a leaf S i = absurd i
told_stands a (link b u r) S i =
    ⊎_elim (λ k. ⊎_elim first (λ q. deeper (told_stands a u S q)) (top_cases a u (below a u) S k))
    (λ k. later (told_stands b r S k))
    (in_split S (told a u) (below b r) i)
  where
    first : Node u × (S ≡ a ∷ corners u) → Piece a (link b u r) S
    first p = record { x = a; y = b; v = u; stands = inl (p.0, refl, refl, refl); is = p.1 }

    deeper : Piece a u S → Piece a (link b u r) S
    deeper p = record { x = p.x; y = p.y; v = p.v; stands = inr (inl p.stands); is = p.is }

    later : Piece b r S → Piece a (link b u r) S
    later p = record { x = p.x; y = p.y; v = p.v; stands = inr (inr p.stands); is = p.is }
