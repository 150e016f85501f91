-- The theorems of `Trees`: its definitions and first laws are in specs/.
use Rattle.std.specs.Prelude.{◌≡◌, refl, List, [], ◌∷◌, ◌++◌, ℕ, ◌+◌, ◌*◌, length}
use Rattle.std.proofs.Common.{ap, ◌∙◌, arith, length-append}
use Rattle.rules.specs.Lists.{Rise}
use Rattle.rules.specs.Cutting.{Tree, leaf, link, corners, topped, below, told, flat, weight, one}
use Rattle.rules.specs.Trees.{Chain, Line, Range, chain_rise, flat_below, flat_topped, on_line, rise_is_last, run_below, run_line, run_on}

pub run_line_lem : (a : ℕ) (t : Tree) → flat (told a t) ≡ run_line a t
run_line_lem a t = flat_topped a t (below a t) ∙ ap (run_on a t) (flat_below a t)

module _ (w : ℕ → ℕ → ℕ) where
  -- of the ranges under the lines of a chain from a
  abbrev pub under : ℕ → Tree → ℕ
  under a leaf = 0
  under a (link b u r) = (on_line (w a b) u + under a u) + under b r

  -- of what stands on the line i j
  abbrev pub total : ℕ → ℕ → Tree → ℕ
  total i j t = on_line (w i j) t + under i t

  weight_append : (l m : List (List ℕ)) → weight w (l ++ m) ≡ weight w l + weight w m
  weight_append [] m = omega arith
  weight_append (S ∷ l) m = omega (arith, weight_append l m)

  weight_topped : (a b : ℕ) (t : Tree) (l : List (List ℕ)) → Rise a b (corners t) →
      weight w (topped a t l) ≡ on_line (w a b + weight w l) t
  weight_topped a b leaf l h = refl
  weight_topped a b (link c u r) l h = ap (λ x. w a x + weight w l) (rise_is_last a b (c ∷ corners r) h)

  module _ (cut : ℕ → ℕ → Type 0) (ok : List ℕ → Type 0) where
    weight_line : (a b : ℕ) (t : Tree) → Line cut ok a b t → (Chain cut ok a b t → weight w (below a t) ≡ under a t) →
        weight w (told a t) ≡ total a b t
    weight_line a b leaf h f = refl
    weight_line a b (link c u r) h f =
        omega (
          arith,
          weight_topped a b (link c u r) (below a (link c u r))
              (chain_rise cut ok a b (link c u r) h.2),
          f h.2,
        )

    weight_chain : (a j : ℕ) (t : Tree) → Chain cut ok a j t → weight w (below a t) ≡ under a t
    weight_chain a j leaf h = refl
    weight_chain a j (link b u r) h =
        omega (
          arith,
          weight_append (told a u) (below b r),
          weight_line a b u h.1 (weight_chain a b u),
          weight_chain b j r h.2,
        )

    -- the weight of the pieces told is that of the tree
    pub weight_told : (i j : ℕ) (t : Tree) → Range cut ok i j t → weight w (told i t) ≡ total i j t
    weight_told i j leaf h = absurd h.0
    weight_told i j (link c u r) h =
        omega (
          arith,
          weight_topped i j (link c u r) (below i (link c u r))
              (chain_rise cut ok i j (link c u r) h.1),
          weight_chain i j (link c u r) h.1,
        )

-- ---- the lengths of runs
module _ (cut : ℕ → ℕ → Type 0) (ok : List ℕ → Type 0) where
  length_line : (a b : ℕ) (t : Tree) → Line cut ok a b t →
      (Chain cut ok a b t → length (run_below a t) + length (corners t) + a ≡ b + 2 * under one a t) →
      length (run_line a t) + 1 + a ≡ b + 2 * total one a b t
  length_line a b leaf h f = omega arith
  length_line a b (link c u r) h f =
      omega (arith, length-append (a ∷ c ∷ corners r) (run_below a (link c u r)), f h.2)

  length_chain : (a j : ℕ) (t : Tree) → Chain cut ok a j t →
      length (run_below a t) + length (corners t) + a ≡ j + 2 * under one a t
  length_chain a j leaf h = omega arith
  length_chain a j (link b u r) h =
      omega (
        arith,
        length-append (run_line a u) (run_below b r),
        length_line a b u h.1 (length_chain a b u),
        length_chain b j r h.2,
      )

  -- each corner but the ends is told once more for each piece it closes: the run of a range has two numbers a piece
  -- beside its corners
  pub length_run : (i j : ℕ) (t : Tree) → Range cut ok i j t →
      length (flat (told i t)) + 1 + i ≡ j + 2 * total one i j t
  length_run i j leaf h = absurd h.0
  length_run i j (link c u r) h =
      omega (
        arith,
        ap length (run_line_lem i (link c u r)),
        length-append (i ∷ c ∷ corners r) (run_below i (link c u r)),
        length_chain i j (link c u r) h.1,
      )
