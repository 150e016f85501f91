-- A tree that tells only pieces of a nested list tells them all. A piece that does not close on the line of the whole
-- closes on a step of a wider one; if that is told, a told piece closes on the step, and no other piece does.
use Rattle.std.specs.Prelude.{◌≡◌, ◌⊎◌, List, map, ℕ, zero, suc, ◌+◌, ◌-◌, ◌≤◌, ◌<◌}
use Rattle.std.proofs.Common.{sym, ◌∙◌, subst, ⊎_elim, arith}
use Rattle.rules.specs.Lists.{In, Distinct}
use Rattle.rules.specs.Cutting.{Tree, told}
use Rattle.rules.specs.Trees.{Range}
use Rattle.rules.proofs.Valid.{told_ok}
use Rattle.rules.specs.Count.{ends}
use Rattle.checker.specs.Images.{image_same}
use Rattle.checker.specs.Steps.{Steps, Stepped, Closed, Shape, narrow, Spans, spans}
use Rattle.checker.specs.TreeSteps.{told_whole, told_under}
use Rattle.checker.specs.NestedTree.{Any, Among}

module _ (n : ℕ) (L : List (List ℕ)) (shape : (S : List ℕ) → In S L → Shape n S) (alone : Distinct (map ends L))
    (over : (S : List ℕ) → In S L → (ends S ≡ (0, n - 1)) ⊎ Stepped L (ends S).0 (ends S).1)
    (t : Tree) (range : Range Any (Among L) 0 (n - 1) t) where
  piece : (S : List ℕ) → In S L → Spans n S (ends S).0 (ends S).1
  piece S i = spans n S (shape S i)

  narrower : (R : List ℕ) → In R L → (x y : ℕ) → Steps R x y → y + (ends R).0 < (ends R).1 + x
  narrower R i x y k =
      let p = piece R i in
      narrow (ends R).0 (ends R).1 p.rest p.rise p.three x y (subst (λ S. Steps S x y) p.is k)

  -- no other piece of L closes where a told one does
  closed_told : (S : List ℕ) → In S L → Closed (told 0 t) (ends S).0 (ends S).1 → In S (told 0 t)
  closed_told S i q =
      let k = told_ok Any (Among L) 0 (n - 1) t range q.0 q.1 in
      subst (λ R. In R (told 0 t)) (image_same ends L alone q.0 S k i q.2) q.1

  -- from the widest on: f bounds how much narrower than the whole the piece is
  reached : (f : ℕ) (S : List ℕ) → In S L → n + (ends S).0 ≤ (ends S).1 + f → In S (told 0 t)
  reached zero S i le = absurd (omega (arith, (piece S i).small))
  reached (suc f) S i le = closed_told S i (⊎_elim whole (λ p. step p (reached f p.0 p.1 (wide p))) (over S i))
    where
      whole : ends S ≡ (0, n - 1) → Closed (told 0 t) (ends S).0 (ends S).1
      whole e = let q = told_whole Any (Among L) 0 (n - 1) t range in (q.0, q.1, q.2 ∙ sym e)

      wide : (p : Stepped L (ends S).0 (ends S).1) → n + (ends p.0).0 ≤ (ends p.0).1 + f
      wide p = omega (arith, narrower p.0 p.1 (ends S).0 (ends S).1 p.2)

      step : (p : Stepped L (ends S).0 (ends S).1) → In p.0 (told 0 t) →
          Closed (told 0 t) (ends S).0 (ends S).1
      step p k =
          told_under Any (Among L) 0 (n - 1) t range p.0 k (ends S).0 (ends S).1 p.2 (piece S i).wide

  pub tells_all : (S : List ℕ) → In S L → In S (told 0 t)
  tells_all S i = reached n S i (omega (arith, (piece S i).wide))
