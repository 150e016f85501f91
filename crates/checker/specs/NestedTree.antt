-- A tree grows from a list of pieces in which every step that is no side is the closing line of a piece: under that
-- step stands the tree of that piece, and so on down to the sides.
--
--     0 . 2 . . 5    From 0 2 5, 0 1 2 and 2 3 4 5: the tree of the first, with those of the others under its steps.
--      \_/ \___/
use Rattle.std.specs.Prelude.{◌≡◌, refl, List, [], ◌∷◌, ℕ, zero, suc, ◌+◌, ◌≤◌, ◌<◌}
use Rattle.std.proofs.Common.{sym, ap, subst, inl, inr, arith}
use Rattle.std.proofs.Math.Decide.{dec_lt}
use Rattle.rules.specs.Lists.{In, Rise}
use Rattle.rules.specs.Cutting.{Tree, leaf, link, corners}
use Rattle.rules.specs.Trees.{Chain, Line, Range, chain_rise, range_line}
use Rattle.checker.specs.Steps.{Step, Steps, Closed, Shape, before_last, narrow, ends_of, spans_line}

-- the trees in question: any pair may be a cut, and the pieces are those of the list L
abbrev pub Any : ℕ → ℕ → Type 0
Any a b = Unit {0}

abbrev pub Among : List (List ℕ) → List ℕ → Type 0
Among L S = In S L

module _ (n : ℕ) (L : List (List ℕ)) (shape : (S : List ℕ) → In S L → Shape n S)
    (under : (S : List ℕ) → In S L → (x y : ℕ) → Steps S x y → suc x < y → Closed L x y) where
  -- a chain from a to j along s
  record Grown (a j : ℕ) (s : List ℕ) : Type 0 where
    tree : Tree
    is : corners tree ≡ s
    chain : Chain Any (Among L) a j tree

  -- each piece whose last corner is at most f from its first has its chain
  abbrev Grows : ℕ → Type 0
  Grows f = (a j : ℕ) (s : List ℕ) → In (a ∷ s) L → Rise a j s → j ≤ a + f → Grown a j s

  -- on the closing line of a piece, its chain is a range
  range : (a j : ℕ) (t : Tree) → In (a ∷ corners t) L → Chain Any (Among L) a j t → Range Any (Among L) a j t
  range a j leaf i h = absurd (omega (arith, (shape (a ∷ []) i).three))
  range a j (link b u r) i h =
      let three = (shape (a ∷ b ∷ corners r) i).three in
      let rise = chain_rise Any (Among L) a j (link b u r) h in
      ((before_last a b j (corners r) rise three, i), h)

  -- so on a line a j on which a piece closes there stands a range
  on_closing : (f : ℕ) → Grows f → (a j : ℕ) → j ≤ a + f → Closed L a j → (t : Tree) × Range Any (Among L) a j t
  on_closing f G a j le q =
      let p = spans_line n q.0 a j (shape q.0 q.1) q.2 in
      let i : In (a ∷ p.rest) L = subst (λ S. In S L) p.is q.1 in
      let g = G a j p.rest i p.rise le in
      (g.tree, range a j g.tree (subst (λ s. In (a ∷ s) L) (sym g.is) i) g.chain)

  -- and on each step that range or a side
  on_step : (f : ℕ) → Grows f → (a b : ℕ) → a < b → b ≤ a + f → (suc a < b → Closed L a b) → Dec (suc a < b) →
      (u : Tree) × Line Any (Among L) a b u
  on_step f G a b lt le close (no k) = (leaf, omega arith)
  on_step f G a b lt le close (yes k) =
      let p = on_closing f G a b le (close k) in (p.0, range_line Any (Among L) a b p.0 tt p.1)

  -- step by step
  along : (f : ℕ) → Grows f → (a j : ℕ) (s : List ℕ) → Rise a j s → ((x y : ℕ) → Step a s x y → y ≤ x + f) →
      ((x y : ℕ) → Step a s x y → suc x < y → Closed L x y) → Grown a j s
  along f G a j [] h near close = record { tree = leaf; is = refl; chain = h }
  along f G a j (b ∷ s) h near close =
      let first : Step a (b ∷ s) a b = inl (refl, refl) in
      let u = on_step f G a b h.0 (near a b first) (close a b first) (dec_lt (suc a) b) in
      let r = along f G b j s h.1 (λ x y k. near x y (inr k)) (λ x y k. close x y (inr k)) in
      record { tree = link b u.0 r.tree; is = ap (b ∷◌) r.is; chain = (h.0, u.1, r.chain) }

  -- f falls: a step is narrower than the closing line
  grow : (f : ℕ) → Grows f
  grow zero a j s i h le = absurd (omega (arith, (spans_line n (a ∷ s) a j (shape (a ∷ s) i) (ends_of a j s h)).wide))
  grow (suc f) a j s i h le =
      let narrower = narrow a j s h (shape (a ∷ s) i).three in
      along f (grow f) a j s h (λ x y k. omega (arith, narrower x y k)) (under (a ∷ s) i)

  -- the tree of the piece that closes on a j
  pub grown : (a j : ℕ) → Closed L a j → (t : Tree) × Range Any (Among L) a j t
  grown a j q = on_closing j (grow j) a j (omega arith) q
