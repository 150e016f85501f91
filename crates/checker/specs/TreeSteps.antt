-- The steps of the pieces that a tree tells, sides apart, are its lines, and on each line one of the pieces closes.
use Rattle.std.specs.Prelude.{◌≡◌, refl, ◌⊎◌, List, ◌∷◌, ℕ, suc, ◌<◌}
use Rattle.std.proofs.Common.{sym, ap, ◌∙◌, subst, inl, inr, ⊎_elim, arith}
use Rattle.rules.specs.Lists.{In, in_left, in_right, in_split}
use Rattle.rules.specs.Cutting.{Tree, leaf, link, corners, below, told}
use Rattle.rules.specs.Trees.{Node, Chain, Line, Range, chain_rise, range_node}
use Rattle.rules.specs.Lines.{Stands, top_told, below_told, stands_told, Piece, top_cases, told_stands}
use Rattle.rules.proofs.Lines.{stands_in}
use Rattle.rules.specs.Count.{ends}
use Rattle.checker.specs.Steps.{Step, Steps, Stepped, Closed, ends_of}

-- a piece with a step is no side
step_node : (a : ℕ) (t : Tree) (x y : ℕ) → Step a (corners t) x y → Node t
step_node a leaf x y k = k
step_node a (link b u r) x y k = tt

-- a line on which something stands is a step of a piece
stands_step : (a : ℕ) (t : Tree) (x y : ℕ) (v : Tree) → Stands a t x y v → Stepped (told a t) x y
stands_step a leaf x y v h = absurd h
stands_step a (link b u r) x y v (inl h) = (a ∷ b ∷ corners r, inl refl, inl (h.1, h.2))
stands_step a (link b u r) x y v (inr (inl h)) =
    let p = stands_step a u x y v h in
    (p.0, inr (in_left p.0 (told a u) (below b r) p.1), p.2)
stands_step a (link b u r) x y v (inr (inr h)) = later (stands_step b r x y v h)
  where
    -- the piece that begins at b is the rest of the one that begins at a
    later : Stepped (told b r) x y → Stepped (told a (link b u r)) x y
    later p =
        ⊎_elim (λ e. (a ∷ b ∷ corners r, inl refl, inr (subst (λ S. Steps S x y) e.1 p.2)))
        (λ i. (p.0, inr (in_right p.0 (told a u) (below b r) i), p.2))
        (top_cases b r (below b r) p.0 p.1)

module _ (cut : ℕ → ℕ → Type 0) (ok : List ℕ → Type 0) where
  -- a line that is no side has a tree
  line_node : (a b : ℕ) (u : Tree) → Line cut ok a b u → suc a < b → Node u
  line_node a b leaf h w = absurd (omega arith)
  line_node a b (link c v r) h w = tt

  -- and so has a line under which a piece is told
  told_chain : (a b : ℕ) (u : Tree) → Line cut ok a b u → (R : List ℕ) → In R (told a u) → Chain cut ok a b u
  told_chain a b leaf h R i = absurd i
  told_chain a b (link c v r) h R i = h.2

  -- and on a step of a piece that is no side something stands
  step_stands : (a j : ℕ) (t : Tree) → Chain cut ok a j t → (R : List ℕ) → In R (told a t) → (x y : ℕ) →
      Steps R x y → suc x < y → (v : Tree) × Stands a t x y v
  step_stands a j leaf h R i x y k w = absurd i
  step_stands a j (link b u r) h R (inl e) x y k w = go (subst (λ S. Steps S x y) e k)
      (λ k. step_stands b j r h.2 (b ∷ corners r) (top_told b r (below b r) (step_node b r x y k)) x y k w)
    where
      go : Step a (b ∷ corners r) x y → (Step b (corners r) x y → (v : Tree) × Stands b r x y v) →
          (v : Tree) × Stands a (link b u r) x y v
      go (inl q) f = (u, inl (line_node a b u h.1 (omega (arith, q)), q.0, q.1, refl))
      go (inr q) f = let p = f q in (p.0, inr (inr p.1))
  step_stands a j (link b u r) h R (inr i) x y k w =
      ⊎_elim
      (λ q. let p = step_stands a b u (told_chain a b u h.1 R q) R q x y k w in (p.0, inr (inl p.1)))
      (λ q. let p = step_stands b j r h.2 R (below_told b r R q) x y k w in (p.0, inr (inr p.1)))
      (in_split R (told a u) (below b r) i)

  -- ---- so the pieces told are nested
  module _ (i j : ℕ) (t : Tree) (h : Range cut ok i j t) where
    stands_ends : (x y : ℕ) (v : Tree) → Stands i t x y v → ends (x ∷ corners v) ≡ (x, y)
    stands_ends x y v s =
        ends_of x y (corners v) (chain_rise cut ok x y v (stands_in cut ok i j t h.1 x y v s).range.1)

    top_ends : ends (i ∷ corners t) ≡ (i, j)
    top_ends = ends_of i j (corners t) (chain_rise cut ok i j t h.1)

    -- one closes on the line of the whole
    pub told_whole : Closed (told i t) i j
    told_whole = (i ∷ corners t, top_told i t (below i t) (range_node cut ok i j t h), top_ends)

    -- on each step that is no side one closes
    pub told_under : (S : List ℕ) → In S (told i t) → (x y : ℕ) → Steps S x y → suc x < y → Closed (told i t) x y
    told_under S k x y s w =
        let p = step_stands i j t h.1 S k x y s w in
        let v = p.0 in
        (x ∷ corners v, below_told i t (x ∷ corners v) (stands_told i t x y v p.1), stands_ends x y v p.1)

    -- each closes on the line of the whole or on a step
    pub told_over : (S : List ℕ) → In S (told i t) →
        (ends S ≡ (i, j)) ⊎ Stepped (told i t) (ends S).0 (ends S).1
    told_over S k =
        ⊎_elim (λ e. inl (ap ends e.1 ∙ top_ends)) (λ q. inr (on_line (told_stands i t S q)))
        (top_cases i t (below i t) S k)
      where
        on_line : Piece i t S → Stepped (told i t) (ends S).0 (ends S).1
        on_line p =
            let e : ends S ≡ (p.x, p.y) = ap ends p.is ∙ stands_ends p.x p.y p.v p.stands in
            subst (λ (z : ℕ × ℕ). Stepped (told i t) z.0 z.1) (sym e)
            (stands_step i t p.x p.y p.v p.stands)
