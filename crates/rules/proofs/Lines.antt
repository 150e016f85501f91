-- The theorems of `Lines`: its definitions and first laws are in specs/.
use Rattle.std.specs.Prelude.{◌≡◌, List, ◌∷◌, ℕ, suc, ◌≤◌, ◌<◌}
use Rattle.std.proofs.Common.{subst, inl, inr, ⊎_elim, arith}
use Rattle.rules.specs.Lists.{In, Distinct, distinct_append, rise_from, rise_last}
use Rattle.rules.specs.Cutting.{Tree, leaf, link, corners, below, told}
use Rattle.rules.specs.Trees.{Node, Chain, Line, Range, chain_rise, chain_le}
use Rattle.rules.specs.Lines.{Piece, Stands, told_stands, top_cases}

-- ---- the lines of an allowed tree
module _ (cut : ℕ → ℕ → Type 0) (ok : List ℕ → Type 0) where
  pub range_wide : (i j : ℕ) (t : Tree) → Range cut ok i j t → suc i < j
  range_wide i j leaf h = absurd h.0
  range_wide i j (link c u r) h = omega (arith, h.0.0, h.1.0)

  -- what stands on a line x y between a and j
  pub record Placed (a j x y : ℕ) (v : Tree) : Type 0 where
    pub low : a ≤ x
    pub high : y ≤ j
    pub allowed : cut x y
    pub range : Range cut ok x y v

  line_placed : (a b : ℕ) (u : Tree) → Node u → Line cut ok a b u → Placed a b a b u
  line_placed a b leaf k h = absurd k
  line_placed a b (link c v r) k h =
      record { low = omega arith; high = omega arith; allowed = h.0; range = (h.1, h.2) }

  pub line_chain : (a b : ℕ) (u : Tree) (x y : ℕ) (v : Tree) → Line cut ok a b u → Stands a u x y v →
      Chain cut ok a b u
  line_chain a b leaf x y v h s = absurd s
  line_chain a b (link c w r) x y v h s = h.2

  wider : (a j a' j' x y : ℕ) (v : Tree) → a' ≤ a → j ≤ j' → Placed a j x y v → Placed a' j' x y v
  wider a j a' j' x y v l m p =
      record { low = omega (arith, p.low); high = omega (arith, p.high); allowed = p.allowed; range = p.range }

  pub stands_in : (a j : ℕ) (t : Tree) → Chain cut ok a j t → (x y : ℕ) (v : Tree) →
      Stands a t x y v → Placed a j x y v
  stands_in a j leaf h x y v s = absurd s
  stands_in a j (link b u r) h x y v (inl s) =
      rw (s.1, s.2, s.3)
      (wider a b a j a b u (omega arith) (chain_le cut ok b j r h.2) (line_placed a b u s.0 h.1))
  stands_in a j (link b u r) h x y v (inr (inl s)) =
      wider a b a j x y v (omega arith) (chain_le cut ok b j r h.2)
      (stands_in a b u (line_chain a b u x y v h.1 s) x y v s)
  stands_in a j (link b u r) h x y v (inr (inr s)) =
      wider b j a j x y v (omega (arith, h.0)) (omega arith) (stands_in b j r h.2 x y v s)

  -- no line under the closing line is the closing line
  pub stands_proper : (i j : ℕ) (t : Tree) → Range cut ok i j t → (x y : ℕ) (v : Tree) →
      Stands i t x y v → x ≡ i → y < j
  stands_proper i j leaf h x y v s e = absurd s
  stands_proper i j (link c u r) h x y v (inl s) e = omega (arith, h.0.0, s.2)
  stands_proper i j (link c u r) h x y v (inr (inl s)) e =
      omega (arith, h.0.0, (stands_in i c u (line_chain i c u x y v h.1.1 s) x y v s).high)
  stands_proper i j (link c u r) h x y v (inr (inr s)) e =
      absurd (omega (arith, h.1.0, (stands_in c j r h.1.2 x y v s).low))

  -- two lines do not cross
  pub stands_apart : (a j : ℕ) (t : Tree) → Chain cut ok a j t → (x y x' y' : ℕ) (v v' : Tree) →
      Stands a t x y v → Stands a t x' y' v' → x < x' → x' < y → y < y' → ⊥
  stands_apart a j leaf h x y x' y' v v' s s' l m o = s
  stands_apart a j (link b u r) h x y x' y' v v' s s' l m o =
      go s s' (λ c q q'. stands_apart a b u c x y x' y' v v' q q' l m o)
      (λ q q'. stands_apart b j r h.2 x y x' y' v v' q q' l m o)
    where
      under : (x y : ℕ) (v : Tree) → Stands a u x y v → Placed a b x y v
      under x y v s = stands_in a b u (line_chain a b u x y v h.1 s) x y v s

      rest : (x y : ℕ) (v : Tree) → Stands b r x y v → Placed b j x y v
      rest = stands_in b j r h.2

      go : Stands a (link b u r) x y v → Stands a (link b u r) x' y' v' →
          (Chain cut ok a b u → Stands a u x y v → Stands a u x' y' v' → ⊥) →
          (Stands b r x y v → Stands b r x' y' v' → ⊥) → ⊥
      go (inl s) (inl s') f g = omega (arith, s.1, s'.1)
      go (inl s) (inr (inl s')) f g = omega (arith, s.2, (under x' y' v' s').high)
      go (inl s) (inr (inr s')) f g = omega (arith, s.2, (rest x' y' v' s').low)
      go (inr (inl s)) (inl s') f g = omega (arith, s'.1, (under x y v s).low)
      go (inr (inl s)) (inr (inl s')) f g = f (line_chain a b u x y v h.1 s) s s'
      go (inr (inl s)) (inr (inr s')) f g = omega (arith, (under x y v s).high, (rest x' y' v' s').low)
      go (inr (inr s)) (inl s') f g = omega (arith, h.0, s'.1, (rest x y v s).low)
      go (inr (inr s)) (inr (inl s')) f g = omega (arith, (under x' y' v' s').high, (rest x y v s).low)
      go (inr (inr s)) (inr (inr s')) f g = g s s'

  -- ---- each piece is told once
  -- that of the range is not told below it: a piece below does not go from the first corner to the last
  top_apart : (i j : ℕ) (t : Tree) → Range cut ok i j t → In (i ∷ corners t) (below i t) → ⊥
  top_apart i j t h i∈ =
      let p = told_stands i t (i ∷ corners t) i∈ in
      let q = stands_in i j t h.1 p.x p.y p.v p.stands in
      let e : p.x ≡ i = cc p.is in
      let last = rise_from p.x p.y (corners p.v) (chain_rise cut ok p.x p.y p.v q.range.1) j
      (subst (In j) p.is (rise_last i j (corners t) (chain_rise cut ok i j t h.1))) in
      omega (arith, stands_proper i j t h p.x p.y p.v p.stands e, last.1)

  -- a piece on or under the line a b begins before b
  early : (a b : ℕ) (u : Tree) → a < b → Line cut ok a b u → (S : List ℕ) → In S (told a u) →
      (x : ℕ) × (s : List ℕ) × (S ≡ x ∷ s) × (x < b)
  early a b u lt h S k =
      ⊎_elim (λ p. (a, corners u, p.1, lt)) (λ q. deeper (told_stands a u S q)) (top_cases a u (below a u) S k)
    where
      deeper : Piece a u S → (x : ℕ) × (s : List ℕ) × (S ≡ x ∷ s) × (x < b)
      deeper p =
          let q =
          stands_in a b u (line_chain a b u p.x p.y p.v h p.stands) p.x p.y p.v p.stands in
          (p.x, corners p.v, p.is, omega (arith, q.high, range_wide p.x p.y p.v q.range))

  line_distinct : (a b : ℕ) (u : Tree) → Line cut ok a b u → (Chain cut ok a b u → Distinct (below a u)) →
      Distinct (told a u)
  line_distinct a b leaf h f = tt
  line_distinct a b (link c v r) h f = (top_apart a b (link c v r) (h.1, h.2), f h.2)

  below_distinct : (a j : ℕ) (t : Tree) → Chain cut ok a j t → Distinct (below a t)
  below_distinct a j leaf h = tt
  below_distinct a j (link b u r) h =
      distinct_append (told a u) (below b r) (line_distinct a b u h.1 (below_distinct a b u))
      (below_distinct b j r h.2) apart
    where
      apart : (S : List ℕ) → In S (told a u) → In S (below b r) → ⊥
      apart S i k =
          let p = early a b u h.0 h.1 S i in
          let q = told_stands b r S k in
          let e : p.0 ≡ q.x = cc (p.2, q.is) in
          omega (arith, p.3, (stands_in b j r h.2 q.x q.y q.v q.stands).low)

  pub told_distinct : (i j : ℕ) (t : Tree) → Range cut ok i j t → Distinct (told i t)
  told_distinct i j leaf h = tt
  told_distinct i j (link c u r) h = (top_apart i j (link c u r) h, below_distinct i j (link c u r) h.1)
