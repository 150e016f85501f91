-- Allowed trees: what stands on a line, on a chain of corners and on a range, if every pair may be a cut and every
-- piece may be a piece. A cutting and its tree are the same thing (`Valid`); proofs go over trees, by recursion on
-- chains. A lemma on a line is not recursive: it takes what is known of the chain under the line as an argument.
-- (The theorems that follow are in proofs/, under the same name.)
use Rattle.std.specs.Prelude.{◌≡◌, refl, List, [], ◌∷◌, ◌++◌, ℕ, suc, ◌≤◌, ◌<◌, length}
use Rattle.std.proofs.Common.{ap, ap₂, ◌∙◌, append_assoc, arith}
use Rattle.rules.specs.Lists.{Rise, rise_le}
use Rattle.rules.specs.Cutting.{Tree, leaf, link, corners, topped, below, flat, last, weight, one}

-- a tree that is no side
abbrev pub Node : Tree → Type 0
Node leaf = ⊥
Node (link b u r) = Unit {0}

module _ (cut : ℕ → ℕ → Type 0) (ok : List ℕ → Type 0) where
  -- the piece on the line i j: at least one corner between, and allowed
  abbrev pub Fit : ℕ → ℕ → Tree → Type 0
  Fit i j leaf = ⊥
  Fit i j (link c u r) = (c < j) × ok (i ∷ c ∷ corners r)

  -- what stands on the line a b: a side, or a cut with an allowed piece and X below it
  abbrev pub On : ℕ → ℕ → Tree → Type 0 → Type 0
  On a b leaf X = b ≡ suc a
  On a b (link c u r) X = cut a b × Fit a b (link c u r) × X

  -- a chain of corners from a to j, with what stands under its lines
  abbrev pub Chain : ℕ → ℕ → Tree → Type 0
  Chain a j leaf = a ≡ j
  Chain a j (link b u r) = (a < b) × On a b u (Chain a b u) × Chain b j r

  abbrev pub Line : ℕ → ℕ → Tree → Type 0
  Line a b t = On a b t (Chain a b t)

  abbrev pub Range : ℕ → ℕ → Tree → Type 0
  Range i j t = Fit i j t × Chain i j t

  pub chain_rise : (a j : ℕ) (t : Tree) → Chain a j t → Rise a j (corners t)
  chain_rise a j leaf h = h
  chain_rise a j (link b u r) h = (h.0, chain_rise b j r h.2)

  pub chain_le : (a j : ℕ) (t : Tree) → Chain a j t → a ≤ j
  chain_le a j t h = rise_le a j (corners t) (chain_rise a j t h)

  pub range_node : (i j : ℕ) (t : Tree) → Range i j t → Node t
  range_node i j leaf h = absurd h.0
  range_node i j (link c u r) h = tt

  -- a line that is no side is a range on a cut
  pub range_line : (a b : ℕ) (t : Tree) → cut a b → Range a b t → Line a b t
  range_line a b leaf c h = absurd h.0
  range_line a b (link d u r) c h = (c, h.0, h.1)

  pub line_range : (a b : ℕ) (t : Tree) → suc a < b → Line a b t → Range a b t
  line_range a b leaf lt h = absurd (omega arith)
  line_range a b (link d u r) lt h = (h.1, h.2)

-- ---- the run of what stands on a line, and under it, without the list of pieces
abbrev pub run_on : ℕ → Tree → List ℕ → List ℕ
run_on a leaf l = []
run_on a (link b u r) l = (a ∷ b ∷ corners r) ++ l

abbrev pub run_below : ℕ → Tree → List ℕ
run_below a leaf = []
run_below a (link b u r) = run_on a u (run_below a u) ++ run_below b r

abbrev pub run_line : ℕ → Tree → List ℕ
run_line a t = run_on a t (run_below a t)

flat_append : (l m : List (List ℕ)) → flat (l ++ m) ≡ flat l ++ flat m
flat_append [] m = refl
flat_append (s ∷ l) m = rw (flat_append l m, append_assoc)

pub flat_topped : (a : ℕ) (t : Tree) (l : List (List ℕ)) → flat (topped a t l) ≡ run_on a t (flat l)
flat_topped a leaf l = refl
flat_topped a (link b u r) l = refl

pub flat_below : (a : ℕ) (t : Tree) → flat (below a t) ≡ run_below a t
flat_below a leaf = refl
flat_below a (link b u r) =
    flat_append (topped a u (below a u)) (below b r)
    ∙ ap₂ ◌++◌ (flat_topped a u (below a u) ∙ ap (run_on a u) (flat_below a u)) (flat_below b r)

-- ---- the weight of a tree, line by line
abbrev pub on_line : ℕ → Tree → ℕ
on_line k leaf = 0
on_line k (link b u r) = k

pub rise_is_last : (a j : ℕ) (s : List ℕ) → Rise a j s → last a s ≡ j
rise_is_last a j [] h = h
rise_is_last a j (b ∷ s) h = rise_is_last b j s h.1

-- by 01's own rule the weight is the count of pieces
pub weight_one : (l : List (List ℕ)) → weight one l ≡ length l
weight_one [] = refl
weight_one ([] ∷ l) = omega (arith, weight_one l)
weight_one ((a ∷ s) ∷ l) = omega (arith, weight_one l)
