-- The theorems of `Order`: its definitions and first laws are in specs/.
use Rattle.std.specs.Prelude.{◌≡◌, refl, ◌⊎◌, List, ◌∷◌, ◌++◌, ℕ, suc, ◌≤◌, ◌<◌, length}
use Rattle.std.proofs.Common.{sym, ap, subst, inl, inr, arith}
use Rattle.std.proofs.Math.Logic.{⊎_map}
use Rattle.rules.specs.Cutting.{Tree, leaf, link, corners, told, flat, Less}
use Rattle.rules.specs.Trees.{Chain, Line, Range, chain_rise, run_below, run_line}
use Rattle.rules.proofs.Trees.{run_line_lem, total}
use Rattle.rules.specs.Order.{Differ, Upto, less_append, less_prepend, rise_differ, upto_antisym}

-- ---- two trees of one range
module _ (cut : ℕ → ℕ → Type 0) (ok : List ℕ → Type 0) where
  -- what a line and a range have in common
  abbrev Bare : ℕ → ℕ → Tree → Type 0
  Bare a b leaf = b ≡ suc a
  Bare a b (link c u r) = (c < b) × Chain cut ok a b (link c u r)

  line_bare : (a b : ℕ) (t : Tree) → Line cut ok a b t → Bare a b t
  line_bare a b leaf h = h
  line_bare a b (link c u r) h = (h.1.0, h.2)

  range_bare : (a b : ℕ) (t : Tree) → Range cut ok a b t → Bare a b t
  range_bare a b leaf h = absurd h.0
  range_bare a b (link c u r) h = (h.0.0, h.1)

  -- two trees on one line, where those with the same piece are compared by what stands below
  line_differ : (a b : ℕ) (u u' : Tree) → Bare a b u → Bare a b u' →
      (Chain cut ok a b u → Chain cut ok a b u' → corners u ≡ corners u' →
      Differ u u' (run_below a u) (run_below a u')) → Differ u u' (run_line a u) (run_line a u')
  line_differ a b leaf leaf h h' f = inl refl
  line_differ a b leaf (link c u r) h h' f = absurd (omega arith)
  line_differ a b (link c u r) leaf h h' f = absurd (omega arith)
  line_differ a b (link c u r) (link c' u' r') h h' f =
      go (f h.1 h'.1)
      (rise_differ a b _ _ (chain_rise cut ok a b (link c u r) h.1) (chain_rise cut ok a b (link c' u' r') h'.1))
    where
      t : Tree
      t = link c u r

      t' : Tree
      t' = link c' u' r'

      same : corners t ≡ corners t' → Differ t t' (run_below a t) (run_below a t') →
          Differ t t' (run_line a t) (run_line a t')
      same e (inl p) = inl p
      same e (inr d) =
          inr (subst
          (λ x. Less ((a ∷ x) ++ run_below a t) (run_line a t') ⊎ Less (run_line a t') ((a ∷ x) ++ run_below a t))
          (sym e)
          (⊎_map (less_prepend (a ∷ corners t') (run_below a t) (run_below a t'))
          (less_prepend (a ∷ corners t') (run_below a t') (run_below a t)) d))

      go : (corners t ≡ corners t' → Differ t t' (run_below a t) (run_below a t')) →
          Differ (corners t) (corners t') (corners t) (corners t') →
          Differ t t' (run_line a t) (run_line a t')
      go g (inl e) = same e (g e)
      go g (inr d) =
          inr (⊎_map (λ l. less_append (a ∷ corners t) (a ∷ corners t') (run_below a t) (run_below a t')
          (inr (refl, l)))
          (λ l. less_append (a ∷ corners t') (a ∷ corners t) (run_below a t') (run_below a t) (inr (refl, l))) d)

  -- two links to the same corner
  link_differ : (a b : ℕ) (u u' r r' : Tree) → Differ u u' (run_line a u) (run_line a u') →
      Differ r r' (run_below b r) (run_below b r') →
      Differ (link b u r) (link b u' r') (run_below a (link b u r)) (run_below a (link b u' r'))
  link_differ a b u u' r r' (inr d) k = inr (⊎_map (less_append (run_line a u) (run_line a u') (run_below b r)
      (run_below b r')) (less_append (run_line a u') (run_line a u) (run_below b r') (run_below b r)) d)
  link_differ a b u u' r r' (inl p) (inl q) = inl (cc)
  link_differ a b u u' r r' (inl p) (inr d) = inr (rw p (⊎_map (less_prepend (run_line a u') (run_below b r)
      (run_below b r')) (less_prepend (run_line a u') (run_below b r') (run_below b r)) d))

  chain_differ : (a j : ℕ) (t t' : Tree) → Chain cut ok a j t → Chain cut ok a j t' → corners t ≡ corners t' →
      Differ t t' (run_below a t) (run_below a t')
  chain_differ a j leaf leaf h h' e = inl refl
  chain_differ a j leaf (link b u r) h h' e = absurd (omega (arith, ap length e))
  chain_differ a j (link b u r) leaf h h' e = absurd (omega (arith, ap length e))
  chain_differ a j (link b u r) (link b' u' r') h h' e =
      let p : b ≡ b' = cc in
      let q : corners r ≡ corners r' = cc in
      let k : Chain cut ok a j (link b u' r') = subst (λ x. Chain cut ok a j (link x u' r')) (sym p) h' in
      subst (λ x. Differ (link b u r) (link x u' r') (run_below a (link b u r)) (run_below a (link x u' r'))) p
      (link_differ a b u u' r r'
      (line_differ a b u u' (line_bare a b u h.1) (line_bare a b u' k.1) (chain_differ a b u u'))
      (chain_differ b j r r' h.2 k.2 q))

  -- of two different trees of one range the told runs differ, and one comes first
  pub range_differ : (i j : ℕ) (t t' : Tree) → Range cut ok i j t → Range cut ok i j t' →
      Differ t t' (flat (told i t)) (flat (told i t'))
  range_differ i j t t' h h' =
      rw (run_line_lem i t, run_line_lem i t')
      (line_differ i j t t' (range_bare i j t h) (range_bare i j t' h') (chain_differ i j t t'))

  -- ---- the first of the lightest trees of a range
  module _ (w : ℕ → ℕ → ℕ) where
    pub record Best (i j : ℕ) (t : Tree) : Type 0 where
      pub fits : Range cut ok i j t
      pub least : (t' : Tree) → Range cut ok i j t' → total w i j t ≤ total w i j t'
      pub first : (t' : Tree) → Range cut ok i j t' → total w i j t' ≤ total w i j t →
          Upto t t' (flat (told i t)) (flat (told i t'))

    pub best_unique : (i j : ℕ) (t t' : Tree) → Best i j t → Best i j t' → t ≡ t'
    best_unique i j t t' h h' = upto_antisym t t' (flat (told i t)) (flat (told i t'))
        (h.first t' h'.fits (h'.least t h.fits)) (h'.first t h.fits (h.least t' h'.fits))
