-- The theorems of `Valid`: its definitions and first laws are in specs/.
use Rattle.std.specs.Prelude.{◌≡◌, ◌⊎◌, ◌↔◌, List, ◌∷◌, ℕ, suc, ◌-◌, ◌≤◌, T}
use Rattle.std.proofs.Common.{sym, ◌∙◌, subst, inl, inr, ⊎_elim, arith}
use Rattle.std.proofs.Math.Path.{ap}
use Rattle.std.proofs.Math.Logic.{⊎_map}
use Rattle.rules.specs.Lists.{In}
use Rattle.rules.specs.Cutting.{Pairs, Uncrossed, Region, Valid, Tree, leaf}
use Rattle.rules.specs.Cutting.{link, corners, below, told, tree, pieces}
use Rattle.rules.specs.Cutting.{flat, run, Less, weight, First}
use Rattle.rules.specs.Trees.{Range}
use Rattle.rules.proofs.Trees.{total, weight_told}
use Rattle.rules.specs.Order.{less_irrefl, upto_antisym}
use Rattle.rules.proofs.Order.{range_differ, Best}
use Rattle.rules.specs.Lines.{Piece, top_cases, told_stands}
use Rattle.rules.proofs.Lines.{range_wide, stands_in}
use Rattle.rules.proofs.Regions.{pair_line, line_pair, tree_range, pieces_regions}
use Rattle.rules.specs.Uses.{uses, uses_stands, stands_uses}
use Rattle.rules.proofs.Uses.{uses_in, uses_uncrossed, tree_uses}
use Rattle.rules.specs.Valid.{SamePairs}

pub uses_tree : (n : ℕ) (C : Pairs) → 3 ≤ n → Uncrossed n C → SamePairs C (uses 0 (tree n C))
uses_tree n C le un a b = (used, held)
  where
    used : T (C a b) → T (uses 0 (tree n C) a b)
    used c = let f = pair_line n C un le a b c in stands_uses 0 (tree n C) a b f.0 f.1

    held : T (uses 0 (tree n C) a b) → T (C a b)
    held u = let s = uses_stands 0 (tree n C) a b u in (line_pair n C un le a b s.0 s.1).0

-- sets with the same tree are the same
tree_same : (n : ℕ) (C D : Pairs) → 3 ≤ n → Uncrossed n C → Uncrossed n D → tree n C ≡ tree n D → SamePairs C D
tree_same n C D le un un' e a b =
    let p : T (uses 0 (tree n C) a b) ↔ T (uses 0 (tree n D) a b) = rw e ((λ u. u), (λ u. u)) in
    let q = uses_tree n C le un a b in
    let r = uses_tree n D le un' a b in
    (λ c. r.1 (p.0 (q.0 c)), (λ d. q.1 (p.1 (r.0 d))))

module _ (cut : ℕ → ℕ → Type 0) (ok : List ℕ → Type 0) where
  -- ---- the tree of a valid cutting is allowed
  valid_range : (n : ℕ) (C : Pairs) → 3 ≤ n → Valid cut ok n C → Range cut ok 0 (n - 1) (tree n C)
  valid_range n C le va = tree_range n C va.uncrossed le cut ok va.cuts va.allowed

  -- the same, of the corners 0 .. m
  pub valid_tree : (m : ℕ) (C : Pairs) → 2 ≤ m → Valid cut ok (suc m) C → Range cut ok 0 m (tree (suc m) C)
  valid_tree m C le va =
      let e : suc m - 1 ≡ m = omega arith in
      subst (λ j. Range cut ok 0 j (tree (suc m) C)) e (valid_range (suc m) C (omega arith) va)

  -- ---- the cuts that an allowed tree uses are a valid cutting
  range_ok : (i j : ℕ) (t : Tree) → Range cut ok i j t → ok (i ∷ corners t)
  range_ok i j leaf h = absurd h.0
  range_ok i j (link c u r) h = h.0.1

  pub told_ok : (i j : ℕ) (t : Tree) → Range cut ok i j t → (S : List ℕ) → In S (told i t) → ok S
  told_ok i j t h S k =
      ⊎_elim (λ e. rw e.1 (range_ok i j t h)) (λ q. go (told_stands i t S q)) (top_cases i t (below i t) S k)
    where
      go : Piece i t S → ok S
      go p = rw p.is
          (range_ok p.x p.y p.v (stands_in cut ok i j t h.1 p.x p.y p.v p.stands).range)

  pub pieces_uses : (m : ℕ) (t : Tree) → Range cut ok 0 m t → pieces (suc m) (uses 0 t) ≡ told 0 t
  unfolding pieces
  pieces_uses m t h = ap (told 0) (tree_uses cut ok m t h)

  pub range_valid : (m : ℕ) (t : Tree) → Range cut ok 0 m t → Valid cut ok (suc m) (uses 0 t)
  range_valid m t h =
      record { uncrossed = un; cuts = λ a b u. (uses_in cut ok 0 m t h.1 a b u).1.allowed; allowed = allowed }
    where
      un : Uncrossed (suc m) (uses 0 t)
      un = uses_uncrossed cut ok m t h

      allowed : (S : List ℕ) → Region (suc m) (uses 0 t) S → ok S
      allowed S R =
          let i = (pieces_regions (suc m) (uses 0 t) (omega (arith, range_wide cut ok 0 m t h)) un S).1 R in
          told_ok 0 m t h S (subst (In S) (pieces_uses m t h) i)

  -- ---- the order of cuttings
  -- Of two different cuttings the told runs differ, and one comes first.
  pub cuttings_differ : (n : ℕ) (C D : Pairs) → 3 ≤ n → Valid cut ok n C → Valid cut ok n D →
      SamePairs C D ⊎ (Less (run n C) (run n D) ⊎ Less (run n D) (run n C))
  unfolding pieces
  cuttings_differ n C D le va va' =
      ⊎_map (tree_same n C D le va.uncrossed va'.uncrossed) (λ d. d)
      (range_differ cut ok 0 (n - 1) (tree n C) (tree n D) (valid_range n C le va) (valid_range n D le va'))

  module _ (w : ℕ → ℕ → ℕ) where
    -- the first of the lightest trees gives the first of the lightest cuttings
    pub best_first : (m : ℕ) (t : Tree) → Best cut ok w 0 m t →
        First cut ok w (suc m) (uses 0 t) × (pieces (suc m) (uses 0 t) ≡ told 0 t)
    unfolding pieces
    best_first m t B = (record { valid = range_valid m t B.fits; least = least; first = first }, same)
      where
        same : pieces (suc m) (uses 0 t) ≡ told 0 t
        same = pieces_uses m t B.fits

        fits : (D : Pairs) → Valid cut ok (suc m) D → Range cut ok 0 m (tree (suc m) D)
        fits D va = valid_tree m D (omega (arith, range_wide cut ok 0 m t B.fits)) va

        weighs : (D : Pairs) → Valid cut ok (suc m) D → weight w (pieces (suc m) D) ≡ total w 0 m (tree (suc m) D)
        weighs D va = weight_told w cut ok 0 m (tree (suc m) D) (fits D va)

        weight_t : weight w (pieces (suc m) (uses 0 t)) ≡ total w 0 m t
        weight_t = ap (weight w) same ∙ weight_told w cut ok 0 m t B.fits

        least : (D : Pairs) → Valid cut ok (suc m) D →
            weight w (pieces (suc m) (uses 0 t)) ≤ weight w (pieces (suc m) D)
        least D va = omega (arith, B.least (tree (suc m) D) (fits D va), weighs D va, weight_t)

        first : (D : Pairs) → Valid cut ok (suc m) D →
            weight w (pieces (suc m) D) ≤ weight w (pieces (suc m) (uses 0 t)) →
            (pieces (suc m) (uses 0 t) ≡ pieces (suc m) D) ⊎ Less (run (suc m) (uses 0 t)) (run (suc m) D)
        first D va k =
            ⊎_map (λ e. same ∙ ap (told 0) e) (λ l. subst (λ l. Less (flat l) (run (suc m) D)) (sym same) l)
            (B.first (tree (suc m) D) (fits D va) (omega (arith, weighs D va, weight_t)))

    -- "fewest, then first" has at most one answer
    pub first_unique : (n : ℕ) (C D : Pairs) → First cut ok w n C → First cut ok w n D → pieces n C ≡ pieces n D
    first_unique n C D h k =
        let p = h.first D k.valid (k.least C h.valid) in
        let q = k.first C h.valid (h.least D k.valid) in
        upto_antisym (pieces n C) (pieces n D) (run n C) (run n D) p q

    pub first_same : (n : ℕ) (C D : Pairs) → 3 ≤ n → First cut ok w n C → First cut ok w n D → SamePairs C D
    first_same n C D le h k = go (cuttings_differ n C D le h.valid k.valid)
      where
        e : run n C ≡ run n D
        e = ap flat (first_unique n C D h k)

        go : SamePairs C D ⊎ (Less (run n C) (run n D) ⊎ Less (run n D) (run n C)) → SamePairs C D
        go (inl s) = s
        go (inr (inl l)) = absurd (less_irrefl (run n D) (subst (λ x. Less x (run n D)) e l))
        go (inr (inr l)) = absurd (less_irrefl (run n D) (subst (Less (run n D)) e l))
