-- The tree of a set of pairs, as a relation: each piece goes from corner to corner by the furthest pair, and so on
-- under each line. `tree` of `Cutting` makes one, there is no other, and it is an allowed tree where its pairs and
-- pieces are allowed.
use Rattle.std.specs.Prelude.{◌≡◌, refl, Bool, true, false, ◌⊎◌, List, ◌∷◌, ℕ, zero, suc, ◌+◌, ◌-◌, ◌≤◌, ◌<◌, T, ltb}
use Rattle.std.proofs.Common.{sym, subst, inl, inr, arith, ltb→lt, nltb→le}
use Rattle.rules.specs.Lists.{Rise, rise_le}
use Rattle.rules.specs.Cutting.{Pairs, Tree, leaf, link, corners, furthest, chain, tree}
use Rattle.rules.specs.Trees.{Node, Chain, Line, Range}
use Rattle.rules.specs.Order.{tri}

module _ (C : Pairs) where
  -- the line a b is a side between neighbours or a pair of C
  abbrev pub Linked : ℕ → ℕ → Type 0
  Linked a b = (b ≡ suc a) ⊎ T (C a b)

  -- no pair of C goes from a to beyond b and below top
  abbrev pub Clear : ℕ → ℕ → ℕ → Type 0
  Clear a b top = (y : ℕ) → b < y → y < top → T (C a y) → ⊥

  -- what stands on the line a b: a side, or a pair of C with X below it
  abbrev pub LineOf : ℕ → ℕ → Tree → Type 0 → Type 0
  LineOf a b leaf X = b ≡ suc a
  LineOf a b (link c u r) X = T (C a b) × X

  -- t is the chain of C from a on to j, where a's next corner is below top
  abbrev pub ChainOf : ℕ → ℕ → ℕ → Tree → Type 0
  ChainOf a top j leaf = a ≡ j
  ChainOf a top j (link b u r) =
      (a < b) × (b < top) × Clear a b top × LineOf a b u (ChainOf a b b u) × ChainOf b (suc j) j r

  -- t is the tree of C on the range i..j: its piece does not go by the closing line itself
  abbrev pub TreeOf : ℕ → ℕ → Tree → Type 0
  TreeOf i j t = ChainOf i j j t

  pub of_rise : (a top j : ℕ) (t : Tree) → ChainOf a top j t → Rise a j (corners t)
  of_rise a top j leaf h = h
  of_rise a top j (link b u r) h = (h.0, of_rise b (suc j) j r h.4)

  of_le : (a top j : ℕ) (t : Tree) → ChainOf a top j t → a ≤ j
  of_le a top j t h = rise_le a j (corners t) (of_rise a top j t h)

  pub of_node : (a top j : ℕ) (t : Tree) → a < j → ChainOf a top j t → Node t
  of_node a top j leaf lt h = absurd (omega arith)
  of_node a top j (link b u r) lt h = tt

  pub line_linked : (a b : ℕ) (u : Tree) (X : Type 0) → LineOf a b u X → Linked a b
  line_linked a b leaf X h = inl h
  line_linked a b (link c u r) X h = inr h.0

  -- ---- `furthest` is the next corner
  pub record Next (a top b : ℕ) : Type 0 where
    pub linked : Linked a b
    pub clear : Clear a b top
    pub below : (t : ℕ) → top ≤ t → suc a < t → b < t

  pub furthest_next : (a top : ℕ) → Next a top (furthest C a top)
  furthest_next a zero = record { linked = inl refl; clear = λ y l m c. absurd (omega arith); below = λ t le lt. lt }
  furthest_next a (suc k) = go (furthest_next a k) (C a k) refl
    where
      go : Next a k (furthest C a k) → (q : Bool) → C a k ≡ q → Next a (suc k) (furthest C a (suc k))
      go n true e = rw (e, furthest)
          (record { linked = inr (rw e tt); clear = λ y l m c. absurd (omega arith); below = λ t le lt. omega arith })
      go n false e =
          rw (e, furthest) (record {
            linked = n.linked;
            clear = λ y l m c. more y l m c (tri y k);
            below = λ t le lt. n.below t (omega arith) lt;
          })
        where
          more : (y : ℕ) → furthest C a k < y → y < suc k → T (C a y) → (y < k) ⊎ ((y ≡ k) ⊎ (k < y)) → ⊥
          more y l m c (inl p) = n.clear y l p c
          more y l m c (inr (inl p)) = subst T (subst (λ v. C a v ≡ false) (sym p) e) c
          more y l m c (inr (inr p)) = omega arith

  -- ---- `chain` is the chain
  module _ (wide : (a b : ℕ) → T (C a b) → suc a < b) where
    pub above : (a b : ℕ) → Linked a b → a < b
    above a b (inl e) = omega arith
    above a b (inr c) = omega (arith, wide a b c)

    tree_line : (a b : ℕ) (u : Tree) → suc a < b → Linked a b → TreeOf a b u → LineOf a b u (TreeOf a b u)
    tree_line a b leaf lt l h = absurd (omega arith)
    tree_line a b (link d v r) lt (inl e) h = absurd (omega arith)
    tree_line a b (link d v r) lt (inr c) h = (c, h)

    pub under : (a b : ℕ) (u : Tree) → Linked a b → (suc a < b → TreeOf a b u) → (q : Bool) → ltb (suc a) b ≡ q →
        LineOf a b (elim q [ true ↦ u | false ↦ leaf ]) (TreeOf a b (elim q [ true ↦ u | false ↦ leaf ]))
    under a b u l f true e = let w = ltb→lt (suc a) b (rw e tt) in tree_line a b u w l (f w)
    under a b u l f false e = omega (arith, above a b l, nltb→le (suc a) b (rw e tt))

    -- the fuel f is enough for the chain from a to j: each call brings j + top nearer to twice a
    abbrev pub Enough : ℕ → ℕ → ℕ → ℕ → Type 0
    Enough f a top j = (a ≤ j) × (a < j → suc a < top) × (j ≤ top) × (top ≤ suc j) × (j + top ≤ a + a + f)

    pub of_chain : (f a top j : ℕ) → Enough f a top j → ChainOf a top j (chain C f a top j)
    of_chain zero a top j en = omega (arith, en)
    of_chain (suc f) a top j en = go (of_chain f a b b) (of_chain f b (suc j) j) (ltb a j) refl
      where
        b : ℕ
        b = furthest C a top

        next : Next a top b
        next = furthest_next a top

        lt : a < b
        lt = above a b next.linked

        go : (Enough f a b b → TreeOf a b (chain C f a b b)) →
            (Enough f b (suc j) j → ChainOf b (suc j) j (chain C f b (suc j) j)) →
            (q : Bool) → ltb a j ≡ q → ChainOf a top j (chain C (suc f) a top j)
        go F G true e =
            let tp = next.below top (omega arith) (en.1 (ltb→lt a j (rw e tt))) in
            let deeper : suc a < b → TreeOf a b (chain C f a b b) =
            λ w. F (omega arith, (λ q. w), omega arith, omega arith, omega (arith, en, lt)) in
            let line = under a b (chain C f a b b) next.linked deeper (ltb (suc a) b) refl in
            rw (e, chain) (
              lt,
              tp,
              next.clear,
              line,
              G (omega (arith, en), (λ q. omega arith), omega arith, omega arith, omega (arith, en, lt)),
            )
        go F G false e = rw (e, chain) (omega (arith, en, nltb→le a j (rw e tt)))

    -- the tree of a cutting is the tree of its pairs
    pub tree_of : (n : ℕ) → 3 ≤ n → TreeOf 0 (n - 1) (tree n C)
    tree_of n le =
        of_chain (n + n) 0 (n - 1) (n - 1) (omega arith, (λ q. omega arith), omega arith, omega arith, omega arith)

  -- ---- there is no other
  next_same : (a top b b' : ℕ) → (a < b) × (b < top) × Clear a b top × Linked a b →
      (a < b') × (b' < top) × Clear a b' top × Linked a b' → b ≡ b'
  next_same a top b b' h h' = go (tri b b')
    where
      far : (x y : ℕ) → a < x → y < top → Clear a x top → Linked a y → x < y → ⊥
      far x y p q f (inl e) r = omega arith
      far x y p q f (inr k) r = f y r q k

      go : (b < b') ⊎ ((b ≡ b') ⊎ (b' < b)) → b ≡ b'
      go (inl r) = absurd (far b b' h.0 h'.1 h.2 h'.3 r)
      go (inr (inl e)) = e
      go (inr (inr r)) = absurd (far b' b h'.0 h.1 h'.2 h.3 r)

  line_same : (a b : ℕ) (u u' : Tree) → LineOf a b u (TreeOf a b u) → LineOf a b u' (TreeOf a b u') →
      (TreeOf a b u → TreeOf a b u' → u ≡ u') → u ≡ u'
  line_same a b leaf leaf h h' f = refl
  line_same a b leaf (link c v r) h h' f = absurd (omega (arith, h'.1.0, h'.1.1))
  line_same a b (link c v r) leaf h h' f = absurd (omega (arith, h.1.0, h.1.1))
  line_same a b (link c v r) (link c' v' r') h h' f = f h.1 h'.1

  pub of_unique : (a top j : ℕ) (t t' : Tree) → ChainOf a top j t → ChainOf a top j t' → t ≡ t'
  of_unique a top j leaf leaf h h' = refl
  of_unique a top j leaf (link b u r) h h' = absurd (omega (arith, h'.0, of_le b (suc j) j r h'.4))
  of_unique a top j (link b u r) leaf h h' = absurd (omega (arith, h.0, of_le b (suc j) j r h.4))
  of_unique a top j (link b u r) (link b' u' r') h h' =
      let l = line_linked a b u (TreeOf a b u) h.3 in
      let l' = line_linked a b' u' (TreeOf a b' u') h'.3 in
      let e = next_same a top b b' (h.0, h.1, h.2, l) (h'.0, h'.1, h'.2, l') in
      let k : ChainOf a top j (link b u' r') = subst (λ x. ChainOf a top j (link x u' r')) (sym e) h' in
      let eu = line_same a b u u' h.3 k.3 (of_unique a b b u u') in
      let er = of_unique b (suc j) j r r' h.4 k.4 in
      cc

  -- ---- an allowed tree, where the pairs of C may be cuts and the pieces on them may be pieces
  module _ (cut : ℕ → ℕ → Type 0) (ok : List ℕ → Type 0) (n : ℕ)
      (may : (a b : ℕ) (t : Tree) → Node t → T (C a b) → b < n → TreeOf a b t → cut a b × ok (a ∷ corners t)) where
    line_allowed : (a b : ℕ) (t : Tree) → LineOf a b t (TreeOf a b t) → b < n →
        (TreeOf a b t → Chain cut ok a b t) → Line cut ok a b t
    line_allowed a b leaf h lt f = h
    line_allowed a b (link c u r) h lt f =
        let m = may a b (link c u r) tt h.0 lt h.1 in
        (m.0, (h.1.1, m.1), f h.1)

    of_allowed : (a top j : ℕ) (t : Tree) → ChainOf a top j t → j < n → Chain cut ok a j t
    of_allowed a top j leaf h lt = h
    of_allowed a top j (link b u r) h lt =
        let le = of_le b (suc j) j r h.4 in (
          h.0,
          line_allowed a b u h.3 (omega arith) (λ o. of_allowed a b b u o (omega arith)),
          of_allowed b (suc j) j r h.4 lt,
        )

    pub range_allowed : (i j : ℕ) (t : Tree) → Node t → TreeOf i j t → j < n → ok (i ∷ corners t) → Range cut ok i j t
    range_allowed i j leaf k h lt o = absurd k
    range_allowed i j (link c u r) k h lt o = ((h.1, o), of_allowed i j j (link c u r) h lt)
