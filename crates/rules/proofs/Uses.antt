-- The theorems of `Uses`: its definitions and first laws are in specs/.
use Rattle.std.specs.Prelude.{◌≡◌, refl, List, ℕ, suc, ◌-◌, ◌≤◌, ◌<◌, T}
use Rattle.std.proofs.Common.{subst, inl, inr, ⊎_elim, arith}
use Rattle.rules.specs.Cutting.{Pairs, Cross, Inner, Uncrossed, Tree, leaf, link, tree}
use Rattle.rules.specs.Trees.{Node, Fit, Chain, Line, Range, chain_le}
use Rattle.rules.specs.TreeOf.{Clear, LineOf, ChainOf, TreeOf, of_unique}
use Rattle.rules.specs.Lines.{Stands}
use Rattle.rules.proofs.Lines.{range_wide, Placed, line_chain, stands_in, stands_proper, stands_apart}
use Rattle.rules.proofs.Regions.{tree_is}
use Rattle.rules.specs.Uses.{stands_uses, uses, uses_stands}

module _ (cut : ℕ → ℕ → Type 0) (ok : List ℕ → Type 0) where
  pub uses_in : (a j : ℕ) (t : Tree) → Chain cut ok a j t → (x y : ℕ) → T (uses a t x y) →
      (v : Tree) × Placed cut ok a j x y v
  uses_in a j t h x y k = let s = uses_stands a t x y k in (s.0, stands_in cut ok a j t h x y s.0 s.1)

  pub uses_uncrossed : (m : ℕ) (t : Tree) → Range cut ok 0 m t → Uncrossed (suc m) (uses 0 t)
  uses_uncrossed m t h = record { inner = inner; apart = apart }
    where
      inner : (a b : ℕ) → T (uses 0 t a b) → Inner (suc m) a b
      inner a b k =
          let s = uses_stands 0 t a b k in
          let p = stands_in cut ok 0 m t h.1 a b s.0 s.1 in
          let w = range_wide cut ok a b s.0 p.range in
          record {
            rises = omega arith;
            small = omega (arith, p.high);
            no_side = ⊎_elim (λ e. omega arith)
                (λ e. omega (arith, e.1, stands_proper cut ok 0 m t h a b s.0 s.1 e.0));
          }

      apart : (a b c d : ℕ) → T (uses 0 t a b) → T (uses 0 t c d) → Cross a b c d → ⊥
      apart a b c d k k' =
          let s = uses_stands 0 t a b k in
          let s' = uses_stands 0 t c d k' in
          ⊎_elim (λ l. stands_apart cut ok 0 m t h.1 a b c d s.0 s'.0 s.1 s'.1 l.0 l.1 l.2)
          (λ l. stands_apart cut ok 0 m t h.1 c d a b s'.0 s.0 s'.1 s.1 l.0 l.1 l.2)

  -- ---- a tree is that of the pairs it uses: C has the lines under the chain, and no other pair below top
  record Agree (C : Pairs) (a top j : ℕ) (t : Tree) : Type 0 where
    has : (x y : ℕ) (v : Tree) → Stands a t x y v → T (C x y)
    only : (x y : ℕ) → a ≤ x → x < y → y ≤ j → (x ≡ a → y < top) → T (C x y) → (v : Tree) × Stands a t x y v

  -- the next corner is below top
  abbrev Head : ℕ → Tree → Type 0
  Head top leaf = Unit {0}
  Head top (link c u r) = c < top

  fit_head : (a b : ℕ) (t : Tree) → Fit cut ok a b t → Head b t
  fit_head a b leaf h = tt
  fit_head a b (link c u r) h = h.0

  chain_head : (a j : ℕ) (t : Tree) → Chain cut ok a j t → Head (suc j) t
  chain_head a j leaf h = tt
  chain_head a j (link c u r) h = omega (arith, chain_le cut ok c j r h.2)

  line_of : (C : Pairs) (a b : ℕ) (u : Tree) → Line cut ok a b u → (Node u → T (C a b)) →
      (Range cut ok a b u → TreeOf C a b u) →
      LineOf C a b u (TreeOf C a b u)
  line_of C a b leaf h c f = h
  line_of C a b (link d v s) h c f = (c tt, f (h.1, h.2))

  of_uses : (C : Pairs) (a top j : ℕ) (t : Tree) → Chain cut ok a j t → Head top t → top ≤ suc j → Agree C a top j t →
      ChainOf C a top j t
  of_uses C a top j leaf h hd tp ag = h
  of_uses C a top j (link b u r) h hd tp ag = (
    h.0,
    hd,
    clear,
    line_of C a b u h.1 (λ k. ag.has a b u (inl (k, refl, refl, refl)))
        (λ g. of_uses C a b b u g.1 (fit_head a b u g.0) (omega arith) under),
    of_uses C b (suc j) j r h.2 (chain_head b j r h.2) (omega arith) rest,
  )
    where
      le : b ≤ j
      le = chain_le cut ok b j r h.2

      -- the lines by their place: on the first line or under it, or in the rest
      first : (x y : ℕ) (v : Tree) → Stands a u x y v → Placed cut ok a b x y v
      first x y v s = stands_in cut ok a b u (line_chain cut ok a b u x y v h.1 s) x y v s

      later : (x y : ℕ) (v : Tree) → Stands b r x y v → Placed cut ok b j x y v
      later = stands_in cut ok b j r h.2

      clear : Clear C a b top
      clear y l m c =
          let s = ag.only a y (omega arith) (omega (arith, h.0)) (omega arith) (λ e. m) c in
          go s.0 s.1
        where
          go : (v : Tree) → Stands a (link b u r) a y v → ⊥
          go v (inl q) = omega (arith, q.2)
          go v (inr (inl q)) = omega (arith, (first a y v q).high)
          go v (inr (inr q)) = omega (arith, h.0, (later a y v q).low)

      under : Agree C a b b u
      under = record {
        has = λ x y v s. ag.has x y v (inr (inl s));
        only = λ x y p q s e c.
            let f = ag.only x y p q (omega (arith, le)) (λ e'. omega (arith, e e', hd)) c in
            (f.0, go x y q s e f.0 f.1);
      }
        where
          go : (x y : ℕ) → x < y → y ≤ b → (x ≡ a → y < b) → (v : Tree) →
              Stands a (link b u r) x y v → Stands a u x y v
          go x y l k e v (inl q) = absurd (omega (arith, e q.1, q.2))
          go x y l k e v (inr (inl q)) = q
          go x y l k e v (inr (inr q)) = absurd (omega (arith, (later x y v q).low))

      rest : Agree C b (suc j) j r
      rest = record {
        has = λ x y v s. ag.has x y v (inr (inr s));
        only = λ x y p q s e c.
            let f = ag.only x y (omega (arith, h.0)) q s (λ e'. absurd (omega (arith, h.0))) c in
            (f.0, go x y p q f.0 f.1);
      }
        where
          go : (x y : ℕ) → b ≤ x → x < y → (v : Tree) → Stands a (link b u r) x y v → Stands b r x y v
          go x y k l v (inl q) = absurd (omega (arith, h.0, q.1))
          go x y k l v (inr (inl q)) = absurd (omega (arith, (first x y v q).high))
          go x y k l v (inr (inr q)) = q

  range_of : (i j : ℕ) (t : Tree) → Range cut ok i j t → TreeOf (uses i t) i j t
  range_of i j t h =
      of_uses (uses i t) i j j t h.1 (fit_head i j t h.0) (omega arith)
      (record { has = λ x y v s. stands_uses i t x y v s; only = λ x y p q s e c. uses_stands i t x y c })

  pub tree_uses : (m : ℕ) (t : Tree) → Range cut ok 0 m t → tree (suc m) (uses 0 t) ≡ t
  tree_uses m t h =
      let e : suc m - 1 ≡ m = omega arith in
      let o = tree_is (suc m) (uses 0 t) (uses_uncrossed m t h) (omega (arith, range_wide cut ok 0 m t h)) in
      let p = subst (λ j. TreeOf (uses 0 t) 0 j (tree (suc m) (uses 0 t))) e o in
      of_unique (uses 0 t) 0 m m (tree (suc m) (uses 0 t)) t p (range_of 0 m t h)
