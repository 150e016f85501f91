-- A list of pieces is that of one set of uncrossed pairs exactly when it is nested. Number 22 of document 02, K4, asks
-- for the first; a program can tell the second, from the lines of the pieces alone.
--
--     0 . 2 . . 5    The pieces 0 2 5, 0 1 2 and 2 3 4 5 are those of the pairs 0 2 and 2 5. One closes on 0 5, the
--      \_/ \___/     others on its steps; their own steps are sides.
use Rattle.std.specs.Prelude.{◌≡◌, ◌⊎◌, ◌↔◌, List, map, ℕ, zero, suc, ◌-◌, ◌≤◌, ◌<◌}
use Rattle.std.proofs.Common.{sym, ap, ◌∙◌, subst, arith}
use Rattle.std.proofs.Math.Logic.{⊎_map}
use Rattle.rules.specs.Lists.{In, Distinct}
use Rattle.rules.specs.Cutting.{Pairs, Region, Tree, told, tree, pieces}
use Rattle.rules.specs.Trees.{Range}
use Rattle.rules.proofs.Lines.{range_wide}
use Rattle.rules.proofs.Regions.{region_same, tree_all, pieces_regions}
use Rattle.rules.specs.Uses.{uses}
use Rattle.rules.proofs.Valid.{pieces_uses, range_valid}
use Rattle.rules.specs.Count.{distinct_map}
use Rattle.checker.specs.Checks.{PiecesOf}
use Rattle.checker.specs.Images.{images_distinct}
use Rattle.checker.specs.Steps.{Spans, spans}
use Rattle.checker.specs.TreeSteps.{told_whole, told_under, told_over}
use Rattle.checker.specs.NestedTree.{Any, Among, grown}
use Rattle.checker.specs.TreeTells.{tells_all}
pub use Rattle.rules.specs.Count.{ends}
pub use Rattle.checker.specs.Steps.{Step, Steps, Stepped, Closed, Shape}

pub record Nested (n : ℕ) (L : List (List ℕ)) : Type 0 where
  -- each piece closes on a line of its own
  pub alone : Distinct (map ends L)
  -- one closes on the line from the first corner of all to the last
  pub whole : Closed L 0 (n - 1)
  -- under each step of a piece that is no side there is a piece, which closes on that step
  pub under : (S : List ℕ) → In S L → (x y : ℕ) → Steps S x y → suc x < y → Closed L x y
  -- each piece closes on the line of the whole, or on a step of a piece over it
  pub over : (S : List ℕ) → In S L → (ends S ≡ (0, n - 1)) ⊎ Stepped L (ends S).0 (ends S).1

-- ---- a nested list grows into a tree, and its pieces are those of the pairs that the tree uses
module _ (m : ℕ) (L : List (List ℕ)) (shape : (S : List ℕ) → In S L → Shape (suc m) S) (h : Nested (suc m) L) where
  t : Tree
  t = (grown (suc m) L shape h.under 0 (suc m - 1) h.whole).0

  range_whole : Range Any (Among L) 0 (suc m - 1) t
  unfolding t
  range_whole = (grown (suc m) L shape h.under 0 (suc m - 1) h.whole).1

  range : Range Any (Among L) 0 m t
  range = let e : suc m - 1 ≡ m = omega arith in subst (λ j. Range Any (Among L) 0 j t) e range_whole

  pieces_of_nested : PiecesOf (suc m) (uses 0 t) L
  pieces_of_nested =
      let valid = range_valid Any (Among L) m t range in
      let le : 3 ≤ suc m = omega (arith, range_wide Any (Among L) 0 m t range) in
      record {
        uncrossed = valid.uncrossed;
        once = images_distinct ends L h.alone;
        are = λ S. (
          λ i.
              let k = tells_all (suc m) L shape h.alone h.over t range_whole S i in
              (pieces_regions (suc m) (uses 0 t) le valid.uncrossed S).0
              (rw (pieces_uses Any (Among L) m t range) k),
          valid.allowed S,
        );
      }

-- ---- the pieces of a set of uncrossed pairs are nested, as those that its tree tells are
module _ (n : ℕ) (C : Pairs) (L : List (List ℕ)) (le : 3 ≤ n) (h : PiecesOf n C L) where
  are_told : (S : List ℕ) → In S L ↔ In S (told 0 (tree n C))
  unfolding pieces
  are_told S =
      let r = pieces_regions n C le h.uncrossed S in
      (λ i. r.1 ((h.are S).0 i), (λ k. (h.are S).1 (r.0 k)))

  piece : (S : List ℕ) → Region n C S → Spans n S (ends S).0 (ends S).1
  piece S r = spans n S (record { rising = r.rising; small = r.small; three = r.three })

  -- two regions with the same closing line are the same
  one_closing : (S R : List ℕ) → In S L → In R L → ends S ≡ ends R → S ≡ R
  one_closing S R i k e =
      let s = (h.are S).0 i in
      let r = (h.are R).0 k in
      let p = piece S s in
      let q = piece R r in
      p.is
      ∙ region_same n C h.uncrossed (ends S).0 (ends S).1 (ends R).0 (ends R).1 p.rest q.rest
      (ap (λ z. z.0) e) (ap (λ z. z.1) e) p.rise q.rise
      (subst (Region n C) p.is s) (subst (Region n C) q.is r)
      ∙ sym q.is

  range_all : Range Any (λ S. Unit {0}) 0 (n - 1) (tree n C)
  range_all = tree_all n C h.uncrossed le

  nested_of_pieces : Nested n L
  nested_of_pieces = record {
    alone = distinct_map ends L h.once one_closing;
    whole = found (told_whole Any (λ S. Unit {0}) 0 (n - 1) (tree n C) range_all);
    under = λ S i x y k w.
        found (told_under Any (λ S. Unit {0}) 0 (n - 1) (tree n C) range_all S ((are_told S).0 i) x y k w);
    over = λ S i.
        ⊎_map (λ e. e) found
        (told_over Any (λ S. Unit {0}) 0 (n - 1) (tree n C) range_all S ((are_told S).0 i));
  }
    where
      found : {P : List ℕ → Type 0} → (R : List ℕ) × In R (told 0 (tree n C)) × P R → (R : List ℕ) × In R L × P R
      found p = (p.0, (are_told p.0).1 p.1, p.2)

-- ---- the theorem
pub nested_pieces : (n : ℕ) (L : List (List ℕ)) → 3 ≤ n → ((S : List ℕ) → In S L → Shape n S) →
    Nested n L ↔ ((C : Pairs) × PiecesOf n C L)
nested_pieces zero L le shape = absurd (omega arith)
nested_pieces (suc m) L le shape = (
  λ h. (uses 0 (t m L shape h), pieces_of_nested m L shape h),
  λ p. nested_of_pieces (suc m) p.0 L le p.1,
)
