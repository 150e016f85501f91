-- Each piece of the tree of a set of pairs is a region of it. (Uncrossed or not; that all regions are told needs
-- uncrossed pairs: `Regions`.)
use Rattle.std.specs.Prelude.{◌≡◌, refl, List, ◌∷◌, ℕ, suc, ◌≤◌, ◌<◌, length, T}
use Rattle.std.proofs.Common.{subst, inl, inr, ⊎_elim, arith}
use Rattle.std.proofs.Math.Decide.{dec_lt}
use Rattle.rules.specs.Lists.{In, Rise, rise_from, rise_last, rise_rising}
use Rattle.rules.specs.Cutting.{Pairs, Joined, Inside, Near, Region, Tree, leaf, link, corners}
use Rattle.rules.specs.Trees.{Node}
use Rattle.rules.specs.TreeOf.{Linked, LineOf, ChainOf, TreeOf, of_rise, line_linked}
use Rattle.rules.specs.Lines.{Stands}

module _ (C : Pairs) where
  from : (b j : ℕ) (r : Tree) → ChainOf C b (suc j) j r → (x : ℕ) → In x (b ∷ corners r) → (b ≤ x) × (x ≤ j)
  from b j r h = rise_from b j (corners r) (of_rise C b (suc j) j r h)

  -- a pair of C between two corners of a chain is a line of it
  of_inside : (a top j : ℕ) (t : Tree) → ChainOf C a top j t → (x y : ℕ) → In x (a ∷ corners t) →
      In y (a ∷ corners t) →
      x < y → T (C x y) → (x ≡ a → y < top) → Inside (a ∷ corners t) x y
  of_inside a top j leaf h x y (inl p) (inl q) lt c k = absurd (omega arith)
  of_inside a top j leaf h x y (inl p) (inr q) lt c k = elim q [ ]
  of_inside a top j leaf h x y (inr p) _ lt c k = elim p [ ]
  of_inside a top j (link b u r) h x y (inl p) (inl q) lt c k = absurd (omega arith)
  of_inside a top j (link b u r) h x y (inl p) (inr q) lt c k = between
    where
      le : Dec (b < y) → y ≤ b
      le (yes l) = absurd (h.2 y l (k p) (subst (λ v. T (C v y)) p c))
      le (no l) = omega arith

      between : Inside (a ∷ b ∷ corners r) x y
      between z (inl e) l m = omega arith
      between z (inr i) l m = omega (arith, le (dec_lt b y), from b j r h.4 z i)
  of_inside a top j (link b u r) h x y (inr p) (inl q) lt c k = absurd (omega (arith, h.0, from b j r h.4 x p))
  of_inside a top j (link b u r) h x y (inr p) (inr q) lt c k =
      between (of_inside b (suc j) j r h.4 x y p q lt c (λ e. omega (arith, from b j r h.4 y q)))
    where
      between : Inside (b ∷ corners r) x y → Inside (a ∷ b ∷ corners r) x y
      between f z (inl e) l m = omega (arith, h.0, from b j r h.4 x p)
      between f z (inr i) l m = f z i l m

  -- corners of a chain with none between are linked
  of_linked : (a top j : ℕ) (t : Tree) → ChainOf C a top j t → (x y : ℕ) → In x (a ∷ corners t) →
      In y (a ∷ corners t) →
      x < y → Inside (a ∷ corners t) x y → Linked C x y
  of_linked a top j leaf h x y (inl p) (inl q) lt f = absurd (omega arith)
  of_linked a top j leaf h x y (inl p) (inr q) lt f = elim q [ ]
  of_linked a top j leaf h x y (inr p) _ lt f = elim p [ ]
  of_linked a top j (link b u r) h x y (inl p) (inl q) lt f = absurd (omega arith)
  of_linked a top j (link b u r) h x y (inl p) (inr q) lt f = rw (p, same (dec_lt b y)) (line_linked C a b u _ h.3)
    where
      same : Dec (b < y) → y ≡ b
      same (yes l) = absurd (f b (inr (inl refl)) (omega (arith, h.0)) l)
      same (no l) = omega (arith, from b j r h.4 y q)
  of_linked a top j (link b u r) h x y (inr p) (inl q) lt f = absurd (omega (arith, h.0, from b j r h.4 x p))
  of_linked a top j (link b u r) h x y (inr p) (inr q) lt f =
      of_linked b (suc j) j r h.4 x y p q lt (λ z i. f z (inr i))

  node_three : (a b : ℕ) (t : Tree) → Node t → TreeOf C a b t → 3 ≤ length (a ∷ corners t)
  node_three a b leaf k h = absurd k
  node_three a b (link c u leaf) k h = absurd (omega (arith, h.1, h.4))
  node_three a b (link c u (link d v r)) k h = omega arith

  pub piece_region : (n a b : ℕ) (t : Tree) → Node t → TreeOf C a b t → b < n → Joined n C a b →
      Region n C (a ∷ corners t)
  piece_region n a b t k h hn closing = record {
    rising = rise_rising a b (corners t) ri;
    small = λ x i. omega (arith, within x i);
    three = node_three a b t k h;
    lines = λ x y i j lt. (joined x y i j lt, near x y i j lt);
  }
    where
      S : List ℕ
      S = a ∷ corners t

      ri : Rise a b (corners t)
      ri = of_rise C a b b t h

      within : (x : ℕ) → In x S → (a ≤ x) × (x ≤ b)
      within = rise_from a b (corners t) ri

      joined : (x y : ℕ) → In x S → In y S → x < y → Near S x y → Joined n C x y
      joined x y i j lt (inl f) = ⊎_elim (λ e. inl (inl e)) (λ c. inr c) (of_linked a b b t h x y i j lt f)
      joined x y i j lt (inr f) =
          let e₀ : x ≡ a = omega (arith, f a (inl refl), within x i) in
          let e₁ : y ≡ b = omega (arith, f b (rise_last a b (corners t) ri), within y j) in
          rw (e₀, e₁) closing

      pair : (x y : ℕ) → In x S → In y S → x < y → T (C x y) → Dec (a < x) → Dec (y < b) → Near S x y
      pair x y i j lt c (yes l) d = inl (of_inside a b b t h x y i j lt c (λ e. absurd (omega arith)))
      pair x y i j lt c (no l) (yes m) = inl (of_inside a b b t h x y i j lt c (λ e. m))
      pair x y i j lt c (no l) (no m) = inr (λ z k. let q = within z k in (omega arith, omega arith))

      near : (x y : ℕ) → In x S → In y S → x < y → Joined n C x y → Near S x y
      near x y i j lt (inl (inl e)) = inl (λ z k l m. omega arith)
      near x y i j lt (inl (inr e)) = inr (λ z k. let q = within z k in (omega arith, omega arith))
      near x y i j lt (inr c) = pair x y i j lt c (dec_lt a x) (dec_lt y b)

  -- what stands on a line of the tree of C is the tree of C on that line, which is a pair of C
  line_node : (a b : ℕ) (u : Tree) → Node u → LineOf C a b u (TreeOf C a b u) → T (C a b) × TreeOf C a b u
  line_node a b leaf k h = absurd k
  line_node a b (link c v r) k h = h

  stands_node : (a : ℕ) (t : Tree) (x y : ℕ) (v : Tree) → Stands a t x y v → Node t
  stands_node a leaf x y v s = s
  stands_node a (link b u r) x y v s = tt

  pub stands_of : (a top j : ℕ) (t : Tree) → ChainOf C a top j t → (x y : ℕ) (v : Tree) → Stands a t x y v →
      T (C x y) × Node v × TreeOf C x y v
  stands_of a top j leaf h x y v s = absurd s
  stands_of a top j (link b u r) h x y v (inl s) =
      rw (s.1, s.2, s.3) (let p = line_node a b u s.0 h.3 in (p.0, s.0, p.1))
  stands_of a top j (link b u r) h x y v (inr (inl s)) =
      stands_of a b b u (line_node a b u (stands_node a u x y v s) h.3).1 x y v s
  stands_of a top j (link b u r) h x y v (inr (inr s)) = stands_of b (suc j) j r h.4 x y v s
