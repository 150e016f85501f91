-- Along the corners of a piece, from one to the next.
use Rattle.std.specs.Prelude.{◌≡◌, Bool, true, false, ◌&&◌, ◌||◌, eqb, List, [], ◌∷◌, ℕ, zero, suc, ◌-◌, ◌≤◌, ◌<◌, length, get_or, set, take, drop}
use Rattle.std.proofs.Common.{refl, sym, ap, ◌∙◌, add-one, arith}
use Rattle.std.specs.Bool.{MatchBool}
use Rattle.std.specs.Fn.{Called, ComputesOnPairs}
use Rattle.std.specs.List.{AllWithin, HoldsAt, IsAllAdjacentAnswer, list_any}
use Rattle.std.proofs.lemmas.Fn.{always_returns_same}
use denote.Param.Members.{Mut}
use denote.Ref.{Bor}
use Rattle.limits.specs.Limits.{place}
use Rattle.rules.specs.Cutting.{last, closing}
use Rattle.rules.specs.Lays.{all, some}
use Rattle.checker.specs.Parts.{along, each_step, stepped}

-- ---- the closing line goes from the first to the last
last_is : (a : ℕ) (s : List ℕ) → last a s ≡ get_or (a ∷ s) (length s) 0
last_is a [] = refl
last_is a (b ∷ s) = last_is b s

pub closing_is : (S : List ℕ) → 0 < length S → closing place S ≡ place (get_or S 0 0) (get_or S (length S - 1) 0)
closing_is [] h = absurd (omega arith)
closing_is (a ∷ s) h =
    let e : suc (length s) - 1 ≡ length s = omega arith in
    ap (place a) (last_is a s ∙ ap (λ (k : ℕ). get_or (a ∷ s) k 0) (sym e))

-- ---- a test of each corner and the next
module _ (p : ℕ → ℕ → Bool) where
  all_along : (a : ℕ) (s : List ℕ) →
      ((k d : ℕ) → suc k < length (a ∷ s) → true ≡ p (get_or (a ∷ s) k d) (get_or (a ∷ s) (suc k) d)) →
      true ≡ along p a s
  all_along a [] f = refl
  all_along a (b ∷ s) f =
      all_along b s (λ k d lt. f (suc k) d (omega arith)) ∙ ap (λ x. x && along p b s) (f 0 0 (omega arith))

  some_along : (a : ℕ) (s : List ℕ) (k : ℕ) → suc k < length (a ∷ s) →
      false ≡ p (get_or (a ∷ s) k 0) (get_or (a ∷ s) (suc k) 0) →
      false ≡ along p a s
  some_along a [] k lt f = absurd (omega arith)
  some_along a (b ∷ s) zero lt f = ap (λ x. x && along p b s) f
  some_along a (b ∷ s) (suc k) lt f = go (p a b) (some_along b s k (omega arith) f)
    where
      go : (x : Bool) → false ≡ along p b s → false ≡ (x && along p b s)
      go true e = e
      go false e = refl

  pub each_step_is : (S : List ℕ) (r : Bool) → IsAllAdjacentAnswer (λ x y b. b ≡ p x y) S r → r ≡ each_step p S
  each_step_is [] true h = refl
  each_step_is [] false h = absurd (omega (arith, h.1))
  each_step_is (a ∷ s) true h = all_along a s (λ k d lt. rw add-one at (h k d (omega arith)))
  each_step_is (a ∷ s) false h =
      some_along a s h.0 (omega (arith, h.1)) (rw add-one at (h.2 0))

  -- as `is_sorted_by` makes it
  pub sorted_by : {F : Type 0} {g : Mut F (Bor ℕ × (Bor ℕ × Unit {0})) Bool} {f : F} (S : List ℕ) (r : Bool) →
      ((e : ℕ → ℕ → Bool) → ComputesOnPairs g e f → IsAllAdjacentAnswer (λ x y b. b ≡ e x y) S r) →
      ((a : Bor ℕ × (Bor ℕ × Unit {0})) (q : Bool) (f' : F) → Called g f a q f' →
      (q ≡ p a.0.now a.1.0.now) × (f' ≡ f)) →
      r ≡ each_step p S
  sorted_by S r cases k = each_step_is S r (cases p (always_returns_same _ _ _ k))

-- ---- a test of each corner
module _ (p : ℕ → Bool) where
  all_each : (S : List ℕ) → ((k d : ℕ) → k < length S → true ≡ p (get_or S k d)) → true ≡ all p S
  all_each [] f = refl
  all_each (a ∷ s) f = all_each s (λ k d lt. f (suc k) d (omega arith)) ∙ ap (λ x. x && all p s) (f 0 0 (omega arith))

  some_not : (S : List ℕ) (k : ℕ) → k < length S → false ≡ p (get_or S k 0) → false ≡ all p S
  some_not [] k lt f = absurd (omega arith)
  some_not (a ∷ s) zero lt f = ap (λ x. x && all p s) f
  some_not (a ∷ s) (suc k) lt f = go (p a) (some_not s k (omega arith) f)
    where
      go : (x : Bool) → false ≡ all p s → false ≡ (x && all p s)
      go true e = e
      go false e = refl

  pub all_is : (S : List ℕ) (r : Bool) →
      MatchBool r (AllWithin (λ x. true ≡ p x) S 0 (length S))
      ((k : ℕ) × (k < length S) × HoldsAt (λ x. false ≡ p x) S k) →
      r ≡ all p S
  all_is S true h = all_each S (λ k d lt. h k d (omega arith) lt)
  all_is S false h = some_not S h.0 h.1 (h.2 0)

-- ---- a corner that is looked for
pub some_is : (c : ℕ) (S : List ℕ) → list_any (λ y. eqb y c) S ≡ some (λ x. eqb x c) S
some_is c [] = refl
some_is c (a ∷ s) = go (eqb a c) (some_is c s)
  where
    go : (b : Bool) → list_any (λ y. eqb y c) s ≡ some (λ x. eqb x c) s →
        (b || list_any (λ y. eqb y c) s) ≡ elim b [ true ↦ true | false ↦ some (λ x. eqb x c) s ]
    go true e = refl
    go false e = e

-- ---- steps that are marked: of the corners that are left, those that begin with the next are still to be
pub marking_more : (S w t : List ℕ) → 2 ≤ length S → w ≡ take 2 S →
    stepped S t ≡ stepped (drop 1 S) (set t (place (get_or w 0 0) (get_or w 1 0)) 1)
marking_more [] w t le q = absurd (omega arith)
marking_more (a ∷ []) w t le q = absurd (omega arith)
marking_more (a ∷ b ∷ s) w t le q = rw q refl

pub marking_end : (S t : List ℕ) → length S < 2 → stepped S t ≡ t
marking_end [] t lt = refl
marking_end (a ∷ []) t lt = refl
marking_end (a ∷ b ∷ s) t lt = absurd (omega arith)
