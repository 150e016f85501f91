-- Tables of cells that hold lines: the cell of x and y is filled exactly where x y is one of them. The closing lines
-- of pieces are marked in one such table, their steps in another.
use mathlib.Core.Path.{◌≡◌, refl, sym, ap, ap₂, ◌∙◌, subst}
use mathlib.Core.Bool.{Bool, true, not, true≢false}
use mathlib.Core.Logic.{◌⊎◌, inl, inr, ⊎_elim, ⊎_map, ◌↔◌}
use mathlib.Core.List.{List, [], ◌∷◌, map}
use Prim.Native.Nat.{ℕ, ◌<◌, ◌≤◌}
use native.Mathlib.Omega.{arith}
use lib.Dec.{eqb}
use lib.ListN.{length, get_or, set, replicate, length-set, length-replicate, get_or-replicate}
use lib.Seq.{get_or-set_same, get_or-set_other}
use Rattle.limits.specs.Limits.{row, all_cells, place}
use Rattle.outline.specs.Tells.{Tells, Decide, decided, surely, never, as_well, same_as}
use Rattle.outline.specs.Tells.{and_tells, not_tells, eq_tells}
use Rattle.rules.specs.Lists.{In, Distinct}
use Rattle.rules.specs.Cutting.{closing}
use Rattle.rules.specs.Cells.{filled}
use Rattle.rules.specs.Count.{ends}
use Rattle.checker.specs.Steps.{Step, Steps, Stepped, Closed, Shape, spans}
use Rattle.checker.specs.Parts.{closed, step_on, stepped, Marks}

abbrev pub Lines : Type 1
Lines = ℕ → ℕ → Type 0

pub record Holds (t : List ℕ) (P : Lines) : Type 0 where
  pub size : length t ≡ all_cells
  pub tells : (x y : ℕ) → x < row → y < row → Tells (filled t x y) (P x y)

-- ---- what a cell tells
by_cell : {u v : ℕ} {P : Type 0} → u ≡ v → Tells (not (eqb v 0)) P → Tells (not (eqb u 0)) P
by_cell {P} e t = subst (λ (v : ℕ). Tells (not (eqb v 0)) P) (sym e) t

pub cell_yes : {v : ℕ} {P : Type 0} → Tells (not (eqb v 0)) P → ¬ (v ≡ 0) → P
cell_yes {v} t k = t.sure ((not_tells (eq_tells v 0)).told k)

pub cell_no : {v : ℕ} {P : Type 0} → Tells (not (eqb v 0)) P → v ≡ 0 → ¬ P
cell_no {v} t e p = (not_tells (eq_tells v 0)).sure (t.told p) e

-- ---- a table with no line, with the same lines, with one more
abbrev pub zeros : List ℕ
zeros = replicate all_cells 0

holds_none : Holds zeros (λ x y. ⊥)
holds_none = record {
  size = length-replicate {0} {A = ℕ} all_cells 0;
  tells = λ x y h k. by_cell (get_or-replicate {0} {A = ℕ} all_cells (place x y) 0 0 (omega arith)) (never (λ p. p));
}

holds_same : {t : List ℕ} {P Q : Lines} → Holds t P → ((x y : ℕ) → P x y ↔ Q x y) → Holds t Q
holds_same h e = record { size = h.size; tells = λ x y a b. same_as (e x y) (h.tells x y a b) }

abbrev pub Also : Lines → ℕ → ℕ → Lines
Also P a b x y = P x y ⊎ ((x ≡ a) × (y ≡ b))

pub holds_more : {t : List ℕ} {P : Lines} {a b : ℕ} → Holds t P → a < row → b < row →
    Holds (set t (place a b) 1) (Also P a b)
holds_more {t} {P} {a} {b} h la lb = record {
  size = length-set t (place a b) 1 ∙ h.size;
  tells = λ x y lx ly. go x y lx ly (decided (and_tells (eq_tells x a) (eq_tells y b)));
}
  where
    go : (x y : ℕ) → x < row → y < row → Decide ((x ≡ a) × (y ≡ b)) →
        Tells (filled (set t (place a b) 1) x y) (Also P a b x y)
    go x y lx ly (inl e) =
        let k : place x y ≡ place a b = omega (arith, e) in
        by_cell (ap (λ (q : ℕ). get_or (set t (place a b) 1) q 0) k
        ∙ get_or-set_same t (place a b) 1 0 (omega (arith, h.size))) (surely (inr e))
    go x y lx ly (inr n) =
        by_cell (get_or-set_other t (place a b) (place x y) 1 0 (λ k. n (omega arith, omega arith)))
        (as_well (h.tells x y lx ly) inl (⊎_elim (λ p. p) (λ e. absurd (n e))))

-- ---- the steps of a piece, after the lines before
no_more : {A B : Type 0} → ¬ B → A ↔ (A ⊎ B)
no_more n = (inl, ⊎_elim (λ a. a) (λ b. absurd (n b)))

regroup : {A B C : Type 0} → ((A ⊎ B) ⊎ C) ↔ (A ⊎ (B ⊎ C))
regroup = (
  ⊎_elim (⊎_elim inl (λ b. inr (inl b))) (λ c. inr (inr c)),
  ⊎_elim (λ a. inl (inl a)) (⊎_elim (λ b. inl (inr b)) inr),
)

holds_along : (a : ℕ) (s : List ℕ) → ((x : ℕ) → In x (a ∷ s) → x < row) → {t : List ℕ} {P : Lines} → Holds t P →
    Holds (step_on a s t) (λ x y. P x y ⊎ Step a s x y)
holds_along a [] small h = holds_same h (λ x y. no_more (λ k. k))
holds_along a (b ∷ s) small h =
    let first = holds_more h (small a (inl refl)) (small b (inr (inl refl))) in
    holds_same (holds_along b s (λ x i. small x (inr i)) first) (λ x y. regroup)

holds_steps : {t : List ℕ} {P : Lines} (S : List ℕ) → ((x : ℕ) → In x S → x < row) → Holds t P →
    Holds (stepped S t) (λ x y. P x y ⊎ Steps S x y)
holds_steps [] small h = holds_same h (λ x y. no_more (λ k. k))
holds_steps (a ∷ s) small h = holds_along a s small h

-- ---- the closing line
closing_ends : (S : List ℕ) → closing place S ≡ place (ends S).0 (ends S).1
closing_ends [] = refl
closing_ends (a ∷ s) = refl

pub same_line : {p q : ℕ × ℕ} → ((p.0 ≡ q.0) × (p.1 ≡ q.1)) ↔ (p ≡ q)
same_line = (λ e. ap₂ (λ x y. (x, y)) e.0 e.1, λ e. (ap (λ r. r.0) e, ap (λ r. r.1) e))

-- ---- from piece to piece: the first of those that are left is one more of those before
next_piece : {A : Type 0} (F : List ℕ → Type 0) (S : List ℕ) (L : List (List ℕ)) →
    ((A ⊎ F S) ⊎ ((R : List ℕ) × In R L × F R)) ↔ (A ⊎ ((R : List ℕ) × In R (S ∷ L) × F R))
next_piece {A} F S L = (
  ⊎_elim (⊎_elim inl (λ f. inr (S, inl refl, f))) (λ p. inr (p.0, inr p.1, p.2)),
  ⊎_elim (λ a. inl (inl a)) (λ p. back p.0 p.1 p.2),
)
  where
    back : (R : List ℕ) → In R (S ∷ L) → F R → (A ⊎ F S) ⊎ ((R : List ℕ) × In R L × F R)
    back R (inl e) f = inl (inr (subst F e f))
    back R (inr i) f = inr (R, i, f)

-- lines of which no two are the same, and none is one of P
abbrev Apart : Lines → List (ℕ × ℕ) → Type 0
Apart P l = Distinct l × ((z : ℕ × ℕ) → In z l → ¬ P z.0 z.1)

apart_next : (P : Lines) (w : ℕ × ℕ) (l : List (ℕ × ℕ)) → ¬ P w.0 w.1 →
    Apart (λ x y. P x y ⊎ (w ≡ (x, y))) l ↔ Apart P (w ∷ l)
apart_next P w l n = (
  λ q. (
    (λ i. q.1 w i (inr refl), q.0),
    λ z. ⊎_elim (λ e p. n (subst (λ (v : ℕ × ℕ). P v.0 v.1) e p)) (λ i p. q.1 z i (inl p)),
  ),
  λ q. (q.0.1, λ z i. ⊎_elim (q.1 z (inr i)) (λ e. q.0.0 (subst (λ v. In v l) (sym e) i))),
)

-- ---- all pieces, one after another
module _ {n : ℕ} (most : n ≤ row) where
  small : {S : List ℕ} → Shape n S → (x : ℕ) → In x S → x < row
  small h x i = omega (arith, h.small x i)

  holds_closing : {c : List ℕ} {P : Lines} {S : List ℕ} → Shape n S → Holds c P →
      Holds (set c (closing place S) 1) (λ x y. P x y ⊎ (ends S ≡ (x, y)))
  holds_closing {c} {P} {S} s h =
      let p = spans n S s in
      rw (closing_ends S)
      (holds_same (holds_more h (omega (arith, p.wide, p.small)) (omega (arith, p.small)))
      (λ x y. (⊎_map (λ p. p) (λ e. sym (same_line.0 e)), ⊎_map (λ p. p) (λ e. same_line.1 (sym e)))))

  pub closed_tells : {t : List ℕ} {P : Lines} {S : List ℕ} → Shape n S → Holds t P →
      Tells (not (eqb (closed t S) 0)) (P (ends S).0 (ends S).1)
  closed_tells {S} s h =
      let p = spans n S s in
      rw (closing_ends S)
      (h.tells (ends S).0 (ends S).1 (omega (arith, p.wide, p.small)) (omega (arith, p.small)))

  -- what the tables hold then
  marks_hold : (L : List (List ℕ)) → ((S : List ℕ) → In S L → Shape n S) → {c t c' t' : List ℕ} {r : Bool}
      {P Q : Lines} → Marks L c t c' t' r → r ≡ true → Holds c P → Holds t Q →
      Holds c' (λ x y. P x y ⊎ Closed L x y) × Holds t' (λ x y. Q x y ⊎ Stepped L x y)
  marks_hold [] shape (_, e, f) k h g = (
    rw e (holds_same h (λ x y. no_more (λ p. p.1))),
    rw f (holds_same g (λ x y. no_more (λ p. p.1))),
  )
  marks_hold (S ∷ L) shape (inl (_, e)) k h g = absurd (true≢false (sym k ∙ e))
  marks_hold (S ∷ L) shape (inr (_, m)) k h g =
      let s = shape S (inl refl) in
      let p = marks_hold L (λ R i. shape R (inr i)) m k (holds_closing s h) (holds_steps S (small s) g) in (
        holds_same p.0 (λ x y. next_piece (λ R. ends R ≡ (x, y)) S L),
        holds_same p.1 (λ x y. next_piece (λ R. Steps R x y) S L),
      )

  -- and whether each piece closes on a line of its own, on which none closed before
  marks_alone : (L : List (List ℕ)) → ((S : List ℕ) → In S L → Shape n S) → (c t c' t' : List ℕ) {r : Bool}
      {P : Lines} → Marks L c t c' t' r → Holds c P → Tells r (Apart P (map ends L))
  marks_alone [] shape c t c' t' (e, _, _) h = rw e (surely (tt, λ z i. absurd i))
  marks_alone (S ∷ L) shape c t c' t' (inl (k, e)) h =
      rw e (never (λ q. q.1 (ends S) (inl refl) (cell_yes (closed_tells (shape S (inl refl)) h) k)))
  marks_alone (S ∷ L) shape c t c' t' {P} (inr (k, m)) h =
      let s = shape S (inl refl) in
      same_as (apart_next P (ends S) (map ends L) (cell_no (closed_tells s h) k))
      (marks_alone L (λ R i. shape R (inr i)) (set c (closing place S) 1) (stepped S t) c' t' m (holds_closing s h))

  -- ---- where the tables are empty before
  module _ (L : List (List ℕ)) (c t : List ℕ) {r : Bool} (shape : (S : List ℕ) → In S L → Shape n S)
      (m : Marks L zeros zeros c t r) where
    pub tables_alone : Tells r (Distinct (map ends L))
    tables_alone = as_well (marks_alone L shape zeros zeros c t m holds_none) (λ h. h.0) (λ h. (h, λ z i p. p))

    pub tables_hold : r ≡ true → Holds c (Closed L) × Holds t (Stepped L)
    tables_hold e =
        let p = marks_hold L shape m e holds_none holds_none in
        (holds_same p.0 (λ x y. only), holds_same p.1 (λ x y. only))
      where
        only : {A : Type 0} → (⊥ ⊎ A) ↔ A
        only = (⊎_elim (λ b. absurd b) (λ a. a), inr)
