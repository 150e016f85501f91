-- The theorems of `Regions`: its definitions and first laws are in specs/.
use Rattle.std.specs.Prelude.{◌≡◌, refl, ◌⊎◌, ◌↔◌, List, [], ◌∷◌, ℕ, suc, ◌-◌, ◌≤◌, ◌<◌, T}
use Rattle.std.proofs.Common.{sym, ap, subst, ◌∙◌, inl, inr, ⊎_elim, arith}
use Rattle.std.proofs.Math.Decide.{dec_lt}
use Rattle.rules.specs.Lists.{In, Distinct, Rise, rise_from, rise_last, rising_ext}
use Rattle.rules.specs.Cutting.{Pairs, Inner, Uncrossed, Joined, Near, Region}
use Rattle.rules.specs.Cutting.{Tree, leaf, link, corners, below, told, tree, pieces}
use Rattle.rules.specs.Trees.{Node, Range}
use Rattle.rules.specs.Order.{tri}
use Rattle.rules.specs.TreeOf.{Linked, LineOf, ChainOf, TreeOf, of_rise, of_node}
use Rattle.rules.specs.TreeOf.{line_linked, tree_of, range_allowed}
use Rattle.rules.specs.Lines.{Stands, top_told, below_told, stands_told, Piece}
use Rattle.rules.specs.Lines.{top_cases, told_stands}
use Rattle.rules.proofs.Lines.{told_distinct}
use Rattle.rules.specs.Pieces.{piece_region, stands_of}
use Rattle.rules.specs.Regions.{Gap, last_of, middle, straddle}

module _ (n : ℕ) (C : Pairs) (un : Uncrossed n C) where
  -- neighbours in a region with a number between them are a pair of C, unless they are the first corner of all and the
  -- last
  gap_pair : (a : ℕ) (s : List ℕ) (b : ℕ) → Region n C (a ∷ s) → (g : Gap a b s) →
      ((g.x ≡ 0) × (suc g.y ≡ n) → ⊥) →
      T (C g.x g.y)
  gap_pair a s b R g f =
      go ((R.lines g.x g.y g.in_x g.in_y (omega (arith, g.lower, g.upper))).0 (inl g.none))
    where
      go : Joined n C g.x g.y → T (C g.x g.y)
      go (inl (inl e)) = absurd (omega (arith, g.lower, g.upper))
      go (inl (inr e)) = absurd (f e)
      go (inr c) = c

  -- S and S' from a to j: what is in S is in S'. Else a corner z of S lies between two neighbours p, q of S', so that
  -- they are a pair; then p and q are in S too, for a line of S over one of them would cross that pair; and so they
  -- are neighbours in S, against z.
  module _ (a j : ℕ) (s s' : List ℕ) (ri : Rise a j s) (ri' : Rise a j s') (R : Region n C (a ∷ s))
      (R' : Region n C (a ∷ s')) where
    within : (x : ℕ) → In x (a ∷ s) → (a ≤ x) × (x ≤ j)
    within = rise_from a j s ri

    module _ (z : ℕ) (i : In z (a ∷ s)) (g : Gap a z s') where
      range : (a ≤ g.x) × (g.y ≤ j) × (j < n)
      range = (
        (rise_from a j s' ri' g.x g.in_x).0,
        (rise_from a j s' ri' g.y g.in_y).1,
        R.small j (rise_last a j s ri),
      )

      -- p and q, the ends of the gap, are not those of S'
      no_ends : g.x ≡ a → g.y ≡ j → ⊥
      no_ends e₀ e₁ =
          let m = middle a j s' ri' R'.three in
          g.none m.0 m.1 (omega (arith, m.2)) (omega (arith, m.3))

      pair : T (C g.x g.y)
      pair =
          gap_pair a s' z R' g (λ e. no_ends (omega (arith, e.0, range.0)) (omega (arith, e.1, range.1, range.2)))

      -- two neighbours in S have z on one side
      side : (b : ℕ) (k : Gap a b s) → (z ≤ k.x) ⊎ (k.y ≤ z)
      side b k = go (dec_lt k.x z) (dec_lt z k.y)
        where
          go : Dec (k.x < z) → Dec (z < k.y) → (z ≤ k.x) ⊎ (k.y ≤ z)
          go (yes l) (yes m) = absurd (k.none z i l m)
          go (yes l) (no m) = inr (omega arith)
          go (no l) d = inl (omega arith)

      low_in : In g.x (a ∷ s)
      low_in =
          let h = straddle g.x j a s ri range.0 (omega (arith, range.1, g.lower, g.upper)) in
          ⊎_elim (λ i. i) (λ k. absurd (cross k (side g.x k))) h
        where
          cross : (k : Gap a g.x s) → (z ≤ k.x) ⊎ (k.y ≤ z) → ⊥
          cross k (inl l) = omega (arith, k.lower, g.lower)
          cross k (inr l) =
              let m : k.y < g.y = omega (arith, g.upper) in
              let c = gap_pair a s g.x R k (λ e. omega (arith, e.1, range.1, range.2)) in
              un.apart k.x k.y g.x g.y c pair (inl (k.lower, k.upper, m))

      high_in : In g.y (a ∷ s)
      high_in =
          let h = straddle g.y j a s ri (omega (arith, range.0, g.lower, g.upper)) range.1 in
          ⊎_elim (λ i. i) (λ k. absurd (cross k (side g.y k))) h
        where
          cross : (k : Gap a g.y s) → (z ≤ k.x) ⊎ (k.y ≤ z) → ⊥
          cross k (inl l) =
              let m : g.x < k.x = omega (arith, g.lower) in
              let c = gap_pair a s g.y R k (λ e. omega (arith, e.0)) in
              un.apart g.x g.y k.x k.y pair c (inl (m, k.lower, k.upper))
          cross k (inr l) = omega (arith, k.upper, g.upper)

      no_gap : ⊥
      no_gap = go ((R.lines g.x g.y low_in high_in (omega (arith, g.lower, g.upper))).1 (inr pair))
        where
          go : Near (a ∷ s) g.x g.y → ⊥
          go (inl f) = f z i g.lower g.upper
          go (inr f) =
              no_ends (omega (arith, f a (inl refl), range.0)) (omega (arith, f j (rise_last a j s ri), range.1))

    region_in : (z : ℕ) → In z (a ∷ s) → In z (a ∷ s')
    region_in z i =
        ⊎_elim (λ h. h) (λ g. absurd (no_gap z i g)) (straddle z j a s' ri' (within z i).0 (within z i).1)

  pub region_same : (a j a' j' : ℕ) (s s' : List ℕ) → a ≡ a' → j ≡ j' → Rise a j s → Rise a' j' s' →
      Region n C (a ∷ s) → Region n C (a' ∷ s') → (a ∷ s) ≡ (a' ∷ s')
  region_same a j a' j' s s' e e' ri ri' R R' =
      let q : Rise a j s' = rw (e, e') ri' in
      let Q : Region n C (a ∷ s') = rw e R' in
      rising_ext (a ∷ s) (a ∷ s') R.rising Q.rising (region_in a j s s' ri q R Q)
      (region_in a j s' s q ri Q R) ∙ ap (◌∷ s') e

  -- ---- on each pair of C there stands a piece
  -- on the line a b or under it
  find_line : (a b : ℕ) (u : Tree) → LineOf C a b u (TreeOf C a b u) → (x y : ℕ) → a ≤ x → y ≤ b → suc x < y →
      (TreeOf C a b u → (x ≡ a → y < b) → (v : Tree) × Stands a u x y v) → Dec (a < x) → Dec (y < b) →
      (Node u × (x ≡ a) × (y ≡ b)) ⊎ ((v : Tree) × Stands a u x y v)
  find_line a b leaf h x y p q lt f d e = absurd (omega arith)
  find_line a b (link k v r) h x y p q lt f (yes l) e = inr (f h.1 (λ e. absurd (omega arith)))
  find_line a b (link k v r) h x y p q lt f (no l) (yes m) = inr (f h.1 (λ e. m))
  find_line a b (link k v r) h x y p q lt f (no l) (no m) = inl (tt, omega arith, omega arith)

  wide : (a b : ℕ) → T (C a b) → suc a < b
  wide a b c = go (tri (suc a) b)
    where
      go : (suc a < b) ⊎ ((suc a ≡ b) ⊎ (b < suc a)) → suc a < b
      go (inl l) = l
      go (inr (inl e)) = absurd ((un.inner a b c).no_side (inl (sym e)))
      go (inr (inr l)) = absurd (omega (arith, (un.inner a b c).rises))

  -- a pair of C lies in the range of all corners, and is not its closing line
  pair_proper : (a b : ℕ) → T (C a b) → (b ≤ n - 1) × (a ≡ 0 → b < n - 1)
  pair_proper a b c = (omega (arith, i.small), λ e. go e (tri b (n - 1)))
    where
      i : Inner n a b
      i = un.inner a b c

      go : a ≡ 0 → (b < n - 1) ⊎ ((b ≡ n - 1) ⊎ (n - 1 < b)) → b < n - 1
      go e (inl l) = l
      go e (inr (inl l)) = absurd (i.no_side (inr (e, omega (arith, i.small))))
      go e (inr (inr l)) = absurd (omega (arith, i.small))

  pair_stands : (a top j : ℕ) (t : Tree) → ChainOf C a top j t → (x y : ℕ) → a ≤ x → y ≤ j → T (C x y) →
      (x ≡ a → y < top) →
      (v : Tree) × Stands a t x y v
  pair_stands a top j leaf h x y p q c k = absurd (omega (arith, wide x y c))
  pair_stands a top j (link b u r) h x y p q c k =
      go (dec_lt x b) (dec_lt b y)
      (λ le. find_line a b u h.3 x y p le (wide x y c) (λ o k'. pair_stands a b b u o x y p le c k')
      (dec_lt a x) (dec_lt y b))
      (λ ge. pair_stands b (suc j) j r h.4 x y ge q c (λ e. omega arith))
    where
      over : x < b → b < y → Dec (a < x) → Linked C a b → ⊥
      over l m (yes s) (inl e) = omega arith
      over l m (yes s) (inr c') = un.apart a b x y c' c (inl (s, l, m))
      over l m (no s) d = let e : x ≡ a = omega arith in h.2 y m (k e) (subst (λ v. T (C v y)) e c)

      go : Dec (x < b) → Dec (b < y) → (y ≤ b → (Node u × (x ≡ a) × (y ≡ b)) ⊎ ((v : Tree) × Stands a u x y v)) →
          (b ≤ x → (v : Tree) × Stands b r x y v) → (v : Tree) × Stands a (link b u r) x y v
      go (no l) d f g = let w = g (omega arith) in (w.0, inr (inr w.1))
      go (yes l) (no m) f g =
          ⊎_elim (λ e. (u, inl (e.0, e.1, e.2, refl))) (λ w. (w.0, inr (inl w.1))) (f (omega arith))
      go (yes l) (yes m) f g = absurd (over l m (dec_lt a x) (line_linked C a b u _ h.3))

  -- ---- the tree of C
  module _ (le : 3 ≤ n) where
    pub tree_is : TreeOf C 0 (n - 1) (tree n C)
    tree_is = tree_of C wide n le

    pub tree_node : Node (tree n C)
    tree_node = of_node C 0 (n - 1) (n - 1) (tree n C) (omega arith) tree_is

    -- its lines are the pairs of C, and under each stands the tree of C on it
    pub pair_line : (x y : ℕ) → T (C x y) → (v : Tree) × Stands 0 (tree n C) x y v
    pair_line x y c =
        let p = pair_proper x y c in
        pair_stands 0 (n - 1) (n - 1) (tree n C) tree_is x y (omega arith) p.0 c p.1

    pub line_pair : (x y : ℕ) (v : Tree) → Stands 0 (tree n C) x y v → T (C x y) × Node v × TreeOf C x y v
    line_pair = stands_of C 0 (n - 1) (n - 1) (tree n C) tree_is

    -- ---- its pieces are the regions of C
    top_region : Region n C (0 ∷ corners (tree n C))
    top_region = piece_region C n 0 (n - 1) (tree n C) tree_node tree_is (omega arith) (inl (inr (refl, omega arith)))

    pub line_region : (x y : ℕ) (v : Tree) → T (C x y) × Node v × TreeOf C x y v → Region n C (x ∷ corners v)
    line_region x y v h = piece_region C n x y v h.1 h.2 (un.inner x y h.0).small (inr h.0)

    told_region : (S : List ℕ) → In S (told 0 (tree n C)) → Region n C S
    told_region S i =
        ⊎_elim (λ e. rw e.1 top_region) (λ k. go (told_stands 0 (tree n C) S k))
        (top_cases 0 (tree n C) (below 0 (tree n C)) S i)
      where
        go : Piece 0 (tree n C) S → Region n C S
        go p = rw p.is (line_region p.x p.y p.v (line_pair p.x p.y p.v p.stands))

    region_told : (S : List ℕ) → Region n C S → In S (told 0 (tree n C))
    region_told [] R = absurd (omega (arith, R.three))
    region_told (a ∷ s) R =
        go ((R.lines a j (inl refl) (rise_last a j s ri) (omega (arith, mid.2, mid.3))).0 (inr (rise_from a j s ri)))
      where
        t : Tree
        t = tree n C

        j : ℕ
        j = (last_of a s R.rising).0

        ri : Rise a j s
        ri = (last_of a s R.rising).1

        mid : (b : ℕ) × In b (a ∷ s) × (a < b) × (b < j)
        mid = middle a j s ri R.three

        top : a ≡ 0 → j ≡ n - 1 → In (a ∷ s) (told 0 t)
        top e₀ e₁ =
            let e = region_same a j 0 (n - 1) s (corners t) e₀ e₁ ri
            (of_rise C 0 (n - 1) (n - 1) t tree_is) R top_region in
            subst (λ S. In S (told 0 t)) (sym e) (top_told 0 t (below 0 t) tree_node)

        under : T (C a j) → In (a ∷ s) (told 0 t)
        under c =
            let f = pair_line a j c in
            let o = line_pair a j f.0 f.1 in
            let e = region_same a j a j s (corners f.0) refl refl ri (of_rise C a j j f.0 o.2) R
            (line_region a j f.0 o) in
            subst (λ S. In S (told 0 t)) (sym e) (below_told 0 t _ (stands_told 0 t a j f.0 f.1))

        go : Joined n C a j → In (a ∷ s) (told 0 t)
        go (inl (inl e)) = absurd (omega (arith, mid.2, mid.3))
        go (inl (inr e)) = top e.0 (omega (arith, e.1))
        go (inr c) = under c

    -- the tree of C is an allowed one, if all that C does is allowed
    pub tree_range : (cut : ℕ → ℕ → Type 0) (ok : List ℕ → Type 0) →
        ((a b : ℕ) → T (C a b) → cut a b) → ((S : List ℕ) → Region n C S → ok S) → Range cut ok 0 (n - 1) (tree n C)
    tree_range cut ok cuts allowed =
        range_allowed C cut ok n
        (λ a b t k c lt o. (cuts a b c, allowed (a ∷ corners t) (line_region a b t (c, k, o))))
        0 (n - 1) (tree n C) tree_node tree_is (omega arith) (allowed (0 ∷ corners (tree n C)) top_region)

    pub tree_all : Range (λ a b. Unit {0}) (λ S. Unit {0}) 0 (n - 1) (tree n C)
    tree_all = tree_range (λ a b. Unit {0}) (λ S. Unit {0}) (λ a b c. tt) (λ S R. tt)

-- ---- the theorems
pub pieces_regions : (n : ℕ) (C : Pairs) → 3 ≤ n → Uncrossed n C → (S : List ℕ) → In S (pieces n C) ↔ Region n C S
unfolding pieces
pieces_regions n C le un S = (told_region n C un le S, region_told n C un le S)

pub pieces_distinct : (n : ℕ) (C : Pairs) → 3 ≤ n → Uncrossed n C → Distinct (pieces n C)
unfolding pieces
pieces_distinct n C le un = told_distinct (λ a b. Unit {0}) (λ S. Unit {0}) 0 (n - 1) (tree n C) (tree_all n C un le)
