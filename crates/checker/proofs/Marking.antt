-- What the two tables that `nested.rt` fills tell of number 22: the pieces of a list are those of one set of uncrossed
-- pairs exactly when they are nested, and that is read off the tables.
use mathlib.Core.Path.{◌≡◌, refl}
use mathlib.Core.Bool.{Bool, true, false, cond}
use mathlib.Core.Logic.{inl, inr, ⊎_elim, ◌↔◌}
use mathlib.Core.List.{List, [], ◌∷◌, map}
use Prim.Native.Nat.{ℕ, suc, ◌-◌, ◌<◌, ◌≤◌}
use native.Mathlib.Omega.{arith}
use lib.Dec.{ltb}
use lib.ListN.{set}
use Rattle.limits.specs.Limits.{fewest_corners, row, place}
use Rattle.outline.specs.Tells.{Tells, surely, if_yes, if_no, as_well, same_as, and_tells, lower_tells}
use Rattle.rules.specs.Lists.{In, Distinct}
use Rattle.rules.specs.Cells.{filled}
use Rattle.checker.specs.Checks.{Entry, Allowed, corner_lists, IsCutting}
use Rattle.checker.specs.Entries.{in_entry}
use Rattle.checker.specs.Nested.{Steps, Stepped, Closed, Shape, Nested, ends, nested_pieces}
use Rattle.checker.specs.Parts.{Marks, closes, fits, all_fit}
use Rattle.checker.proofs.Neighbours.{step_inside}
use Rattle.checker.proofs.Tests.{steps_tell}
use Rattle.checker.proofs.Tables.{Lines, Holds, Also, zeros, holds_more, same_line}
use Rattle.checker.proofs.Tables.{closed_tells, tables_alone, tables_hold}

-- ---- what the tests tell, with P the lines in c, and Q those in t
closes_tells : {c : List ℕ} {P : Lines} (x y : ℕ) → Holds c P → x < row → y < row →
    Tells (closes c x y) (suc x < y → P x y)
closes_tells {c} {P} x y h lx ly = go (ltb (suc x) y) (lower_tells (suc x) y)
  where
    go : (b : Bool) → Tells b (suc x < y) → Tells (cond b (filled c x y) true) (suc x < y → P x y)
    go true l = as_well (h.tells x y lx ly) (λ p k. p) (λ f. f (l.sure tt))
    go false l = surely (λ k. absurd (l.told k))

module _ {n : ℕ} (most : n ≤ row) {c t : List ℕ} {P Q : Lines} (hc : Holds c P) (ht : Holds t Q) where
  step_closes : (S : List ℕ) → Shape n S → (x y : ℕ) → Steps S x y → Tells (closes c x y) (suc x < y → P x y)
  step_closes [] h x y k = absurd k
  step_closes (a ∷ s) h x y k =
      let p = step_inside a s x y h.rising k in
      closes_tells x y hc (omega (arith, h.small x p.from)) (omega (arith, h.small y p.to))

  abbrev Fits : List ℕ → Type 0
  Fits S = ((x y : ℕ) → Steps S x y → suc x < y → P x y) × Q (ends S).0 (ends S).1

  fits_tells : (S : List ℕ) → Shape n S → Tells (fits c t S) (Fits S)
  fits_tells S h =
      let step = step_closes S h in
      and_tells
      (as_well (steps_tell (closes c) S) (λ f x y k. (step x y k).sure (f x y k))
      (λ f x y k. (step x y k).told (f x y k)))
      (closed_tells most h ht)

  all_fit_tells : (L : List (List ℕ)) → ((S : List ℕ) → In S L → Shape n S) →
      Tells (all_fit c t L) ((S : List ℕ) → In S L → Fits S)
  all_fit_tells [] shape = surely (λ S i. absurd i)
  all_fit_tells (S ∷ L) shape =
      as_well
      (and_tells (fits_tells S (shape S (inl refl))) (all_fit_tells L (λ R i. shape R (inr i))))
      (λ h R. ⊎_elim (λ e. rw e h.0) (h.1 R)) (λ h. (h S (inl refl), λ R i. h R (inr i)))

-- ---- pieces that 21 allows have the shape for which nested means number 22
shapes : {n : ℕ} (l : List Entry) → ((e : Entry) → In e l → Allowed n e) → (S : List ℕ) → In S (corner_lists l) →
    Shape n S
shapes l each S i =
    let p = in_entry S l i in
    let h = each p.0 p.1 in
    rw p.2 (record { rising = h.rising; small = h.below; three = h.enough })

nested_is : {n : ℕ} (l : List Entry) → fewest_corners ≤ n → ((e : Entry) → In e l → Allowed n e) →
    Nested n (corner_lists l) ↔ IsCutting n l
nested_is {n} l least each = nested_pieces n (corner_lists l) least (shapes l each)

-- ---- the theorems: c and t are the tables when the pieces of l are marked, r is what is returned then
module _ {n : ℕ} (l : List Entry) (c t : List ℕ) {r : Bool} (least : fewest_corners ≤ n) (most : n ≤ row)
    (each : (e : Entry) → In e l → Allowed n e) (m : Marks (corner_lists l) zeros zeros c t r) where
  alone : Tells r (Distinct (map ends (corner_lists l)))
  alone = tables_alone most (corner_lists l) c t (shapes l each) m

  held : r ≡ true → Holds c (Closed (corner_lists l)) × Holds t (Stepped (corner_lists l))
  held = tables_hold most (corner_lists l) c t (shapes l each) m

  -- two pieces close on one line
  pub marked_twice : r ≡ false → ¬ IsCutting n l
  marked_twice e k = if_no alone e ((nested_is l least each).1 k).alone

  -- no piece closes on the line of the whole
  whole : r ≡ true → Tells (filled c 0 (n - 1)) (Closed (corner_lists l) 0 (n - 1))
  whole e = (held e).0.tells 0 (n - 1) (omega arith) (omega arith)

  pub marked_whole : r ≡ true → filled c 0 (n - 1) ≡ false → ¬ IsCutting n l
  marked_whole e z k = if_no (whole e) z ((nested_is l least each).1 k).whole

  -- else the last test tells
  also_whole : r ≡ true → Holds (set t (place 0 (n - 1)) 1) (Also (Stepped (corner_lists l)) 0 (n - 1))
  also_whole e = holds_more {a = 0} {b = n - 1} (held e).1 (omega arith) (omega arith)

  pub marked_fits : r ≡ true → filled c 0 (n - 1) ≡ true →
      Tells (all_fit c (set t (place 0 (n - 1)) 1) (corner_lists l)) (IsCutting n l)
  marked_fits e k =
      same_as (nested_is l least each)
      (as_well (all_fit_tells most (held e).0 (also_whole e) (corner_lists l) (shapes l each))
      (λ f. record {
        alone = if_yes alone e;
        whole = if_yes (whole e) k;
        under = λ S i. (f S i).0;
        over = λ S i. ⊎_elim inr (λ q. inl (same_line.0 q)) (f S i).1;
      })
      (λ h S i. (h.under S i, ⊎_elim (λ q. inr (same_line.1 q)) inl (h.over S i))))
