-- What the tests along a piece tell: whether its corners rise below n, whether one of them is its centre, whether its
-- lines are seen, and whether its centre sees all of them.
use mathlib.Core.Path.{◌≡◌, refl, sym, subst}
use mathlib.Core.Bool.{Bool, ◌&&◌}
use mathlib.Core.Logic.{inl, inr}
use mathlib.Core.List.{List, [], ◌∷◌}
use Prim.Native.Nat.{ℕ, suc, ◌%◌, ◌≤◌, ◌<◌}
use native.Mathlib.Omega.{arith}
use lib.Dec.{T, eqb, eqb→eq, eqb_refl, ltb, ltb→lt, lt→ltb}
use lib.Ieee.Fits.{and_i, and_l, and_r}
use lib.ListN.{length}
use Rattle.outline.specs.Tells.{Tells, and_tells, as_well, eq_tells}
use Rattle.rules.specs.Lists.{In, Rising}
use Rattle.rules.specs.Cutting.{Near, last}
use Rattle.rules.specs.Cells.{cell, centre_sees}
use Rattle.rules.specs.Lays.{all, some, all_passes, passes_all, some_first, passes_some}
use Rattle.checker.specs.Checks.{Entry, Allowed, LinesSeen, CentreSeesAll}
use Rattle.checker.specs.Nested.{Step, Steps}
use Rattle.checker.specs.Parts.{Corners, piece, along, each_step, rises, closed, in_cells, strictly_sees}
use Rattle.checker.proofs.Neighbours.{inside_step, step_inside, outside_ends, closing_outside}

-- what a test tells, a value that equals it tells
pub told_by : {r b : Bool} {P : Type 0} → r ≡ b → Tells b P → Tells r P
told_by {r} {b} {P} e t = subst (λ x. Tells x P) (sym e) t

-- ---- a test of each step is passed where every step passes it
module _ (p : ℕ → ℕ → Bool) where
  along_passes : (a : ℕ) (s : List ℕ) → T (along p a s) → (x y : ℕ) → Step a s x y → T (p x y)
  along_passes a [] h x y k = absurd k
  along_passes a (b ∷ s) h x y (inl e) = rw (e.0, e.1) (and_l (p a b) (along p b s) h)
  along_passes a (b ∷ s) h x y (inr k) = along_passes b s (and_r (p a b) (along p b s) h) x y k

  passes_along : (a : ℕ) (s : List ℕ) → ((x y : ℕ) → Step a s x y → T (p x y)) → T (along p a s)
  passes_along a [] f = tt
  passes_along a (b ∷ s) f =
      and_i (p a b) (along p b s) (f a b (inl (refl, refl))) (passes_along b s (λ x y k. f x y (inr k)))

  pub steps_tell : (S : List ℕ) → Tells (each_step p S) ((x y : ℕ) → Steps S x y → T (p x y))
  steps_tell [] = record { sure = λ h x y k. absurd k; told = λ f. tt }
  steps_tell (a ∷ s) = record { sure = along_passes a s; told = passes_along a s }

-- ---- 21: rising corners below n
module _ (n : ℕ) where
  rises_more : (a : ℕ) (s : List ℕ) → T (along (rises n) a s) →
      ((z : ℕ) → In z s → (a < z) × (z < n)) × Rising (a ∷ s)
  rises_more a [] h = ((λ z i. absurd i), ((λ z i. absurd i), tt))
  rises_more a (b ∷ s) h =
      let k = and_l (rises n a b) (along (rises n) b s) h in
      let up = ltb→lt a b (and_l (ltb a b) (ltb b n) k) in
      let low = ltb→lt b n (and_r (ltb a b) (ltb b n) k) in
      let r = rises_more b s (and_r (rises n a b) (along (rises n) b s) h) in
      let f = all_above up low r.0 in
      (f, ((λ z i. (f z i).0), r.1))
    where
      all_above : a < b → b < n → ((z : ℕ) → In z s → (b < z) × (z < n)) → (z : ℕ) → In z (b ∷ s) → (a < z) × (z < n)
      all_above up low g z (inl e) = (omega arith, omega arith)
      all_above up low g z (inr i) = let q = g z i in (omega arith, q.1)

  rising_passes : (a : ℕ) (s : List ℕ) → Rising (a ∷ s) → ((z : ℕ) → In z (a ∷ s) → z < n) → T (along (rises n) a s)
  rising_passes a [] r f = tt
  rising_passes a (b ∷ s) r f =
      and_i (rises n a b) (along (rises n) b s)
      (and_i (ltb a b) (ltb b n) (lt→ltb a b (r.0 b (inl refl))) (lt→ltb b n (f b (inr (inl refl)))))
      (rising_passes b s r.1 (λ z i. f z (inr i)))

  -- of two corners or more
  pub rising_tells : (S : List ℕ) → 2 ≤ length S →
      Tells (each_step (rises n) S) (Rising S × ((x : ℕ) → In x S → x < n))
  rising_tells [] le = absurd (omega arith)
  rising_tells (a ∷ []) le = absurd (omega arith)
  rising_tells (a ∷ b ∷ s) le = record {
    sure = λ h. let r = rises_more a (b ∷ s) h in (r.1, below r.0);
    told = λ h. rising_passes a (b ∷ s) h.0 h.1;
  }
    where
      below : ((z : ℕ) → In z (b ∷ s) → (a < z) × (z < n)) → (x : ℕ) → In x (a ∷ b ∷ s) → x < n
      below f x (inl e) = omega (arith, f b (inl refl))
      below f x (inr i) = (f x i).1

-- ---- 21: a corner of the piece
pub has_tells : (c : ℕ) (S : List ℕ) → Tells (some (λ x. eqb x c) S) (In c S)
has_tells c S = record {
  sure = λ h. let k = some_first (λ x. eqb x c) S h in rw (← eqb→eq _ c k.1) k.0;
  told = λ i. passes_some (λ x. eqb x c) S c i (eqb_refl c);
}

-- both together: what 21 asks of a piece of 3 to n corners
pub allowed_tells : (n c : ℕ) (S : List ℕ) → 3 ≤ length S → length S ≤ n →
    Tells (each_step (rises n) S && some (λ x. eqb x c) S) (Allowed n (piece c S))
allowed_tells n c S enough few =
    as_well (and_tells (rising_tells n S (omega arith)) (has_tells c S))
    (λ h. record { enough = enough; few = few; rising = h.0.0; below = h.0.1; own = h.1 })
    (λ a. ((a.rising, a.below), a.own))

-- ---- 23: the lines of a piece
module _ (t : List ℕ) where
  strictly_tells : (x y : ℕ) → Tells (strictly_sees t x y) (cell t x y % 2 ≡ 1)
  strictly_tells x y = eq_tells (cell t x y % 2) 1

  pub lines_tell : (S : List ℕ) → Corners S →
      Tells (each_step (strictly_sees t) S && eqb (closed t S % 2) 1) (LinesSeen (in_cells t) S)
  lines_tell [] k = absurd (omega (arith, k.three))
  lines_tell (a ∷ s) k =
      as_well (and_tells (steps_tell (strictly_sees t) (a ∷ s)) (eq_tells (cell t a (last a s) % 2) 1)) round back
    where
      r : Rising (a ∷ s)
      r = k.rising

      le : 3 ≤ suc (length s)
      le = k.three

      round : ((x y : ℕ) → Step a s x y → T (strictly_sees t x y)) × (cell t a (last a s) % 2 ≡ 1) →
          (x y : ℕ) → In x (a ∷ s) → In y (a ∷ s) → x < y → Near (a ∷ s) x y → cell t x y % 2 ≡ 1
      round h x y i j lt (inl k) = (strictly_tells x y).sure (h.0 x y (inside_step a s x y r i j lt k))
      round h x y i j lt (inr k) =
          let q = outside_ends a s x y r i j k in
          rw (q.0, q.1) h.1

      back : ((x y : ℕ) → In x (a ∷ s) → In y (a ∷ s) → x < y → Near (a ∷ s) x y → cell t x y % 2 ≡ 1) →
          ((x y : ℕ) → Step a s x y → T (strictly_sees t x y)) × (cell t a (last a s) % 2 ≡ 1)
      back f = (
        λ x y k.
            let p = step_inside a s x y r k in
            (strictly_tells x y).told (f x y p.from p.to p.rises (inl p.inside)),
        let p = closing_outside a s r (omega (arith, le)) in
            f a (last a s) p.from p.to p.rises (inr p.outside),
      )

  -- ---- 24: its centre
  pub centre_tells : (e : Entry) → Tells (all (centre_sees t e.centre) e.corners) (CentreSeesAll (in_cells t) e)
  centre_tells e = record {
    sure = λ h y i. (eq_tells _ 1).sure (all_passes (centre_sees t e.centre) e.corners h y i);
    told = λ f. passes_all (centre_sees t e.centre) e.corners (λ y i. (eq_tells _ 1).told (f y i));
  }
