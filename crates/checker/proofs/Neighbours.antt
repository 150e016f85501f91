-- Neighbours round a piece are the two ends of a step, or the first and the last corner.
use mathlib.Core.Path.{◌≡◌, refl, sym, subst}
use mathlib.Core.Logic.{inl, inr}
use mathlib.Core.List.{List, [], ◌∷◌}
use Prim.Native.Nat.{ℕ, ◌≤◌, ◌<◌}
use native.Mathlib.Omega.{arith}
use lib.ListN.{length}
use Rattle.rules.specs.Lists.{In, Rising, rise_from, rise_last}
use Rattle.rules.specs.Cutting.{Inside, Outside, last}
use Rattle.rules.specs.Trees.{rise_is_last}
use Rattle.rules.specs.Regions.{last_of}
use Rattle.checker.specs.Nested.{Step}

-- a member of a rising list that is above its first number comes after it
later : (a x : ℕ) (s : List ℕ) → In x (a ∷ s) → a < x → In x s
later a x s (inl e) lt = absurd (omega arith)
later a x s (inr i) lt = i

first_least : (a x : ℕ) (s : List ℕ) → Rising (a ∷ s) → In x (a ∷ s) → a ≤ x
first_least a x s r (inl e) = omega arith
first_least a x s r (inr i) = omega (arith, r.0 x i)

-- ---- steps
pub inside_step : (a : ℕ) (s : List ℕ) (x y : ℕ) → Rising (a ∷ s) → In x (a ∷ s) → In y (a ∷ s) → x < y →
    Inside (a ∷ s) x y → Step a s x y
inside_step a [] x y r i j lt h = absurd (omega (arith, first_least a x [] r i, single j))
  where
    single : In y (a ∷ []) → y ≡ a
    single (inl e) = e
    single (inr k) = absurd k
inside_step a (b ∷ s) x y r (inl e) j lt h = go (later a y (b ∷ s) j (omega arith))
  where
    go : In y (b ∷ s) → Step a (b ∷ s) x y
    go (inl f) = inl (e, f)
    go (inr k) = absurd (h b (inr (inl refl)) (omega (arith, r.0 b (inl refl))) (r.1.0 y k))
inside_step a (b ∷ s) x y r (inr i) j lt h =
    inr (inside_step b s x y r.1 i (later a y (b ∷ s) j (omega (arith, r.0 x i))) lt (λ z k l m. h z (inr k) l m))

pub record IsStep (S : List ℕ) (x y : ℕ) : Type 0 where
  pub from : In x S
  pub to : In y S
  pub rises : x < y
  pub inside : Inside S x y

pub step_inside : (a : ℕ) (s : List ℕ) (x y : ℕ) → Rising (a ∷ s) → Step a s x y → IsStep (a ∷ s) x y
step_inside a [] x y r k = absurd k
step_inside a (b ∷ s) x y r (inl e) = record {
  from = inl e.0;
  to = inr (inl e.1);
  rises = omega (arith, e, r.0 b (inl refl));
  inside = between;
}
  where
    between : Inside (a ∷ b ∷ s) x y
    between z (inl q) l m = omega (arith, e.0)
    between z (inr q) l m = omega (arith, e.1, first_least b z s r.1 q)
step_inside a (b ∷ s) x y r (inr k) =
    let p = step_inside b s x y r.1 k in
    record { from = inr p.from; to = inr p.to; rises = p.rises; inside = between p }
  where
    between : IsStep (b ∷ s) x y → Inside (a ∷ b ∷ s) x y
    between p z (inl q) l m = omega (arith, r.0 x p.from)
    between p z (inr q) l m = p.inside z q l m

-- ---- the first and the last
pub outside_ends : (a : ℕ) (s : List ℕ) (x y : ℕ) → Rising (a ∷ s) → In x (a ∷ s) → In y (a ∷ s) →
    Outside (a ∷ s) x y → (x ≡ a) × (y ≡ last a s)
outside_ends a s x y r i j h =
    let p = last_of a s r in
    let e = rise_is_last a p.0 s p.1 in
    let f = rise_from a p.0 s p.1 in (
      omega (arith, f x i, h a (inl refl)),
      omega (arith, e, f y j, h p.0 (rise_last a p.0 s p.1)),
    )

pub record IsClosing (S : List ℕ) (x y : ℕ) : Type 0 where
  pub from : In x S
  pub to : In y S
  pub rises : x < y
  pub outside : Outside S x y

pub closing_outside : (a : ℕ) (s : List ℕ) → Rising (a ∷ s) → 1 ≤ length s → IsClosing (a ∷ s) a (last a s)
closing_outside a [] r le = absurd (omega arith)
closing_outside a (b ∷ s) r le =
    let p = last_of a (b ∷ s) r in
    let e = rise_is_last a p.0 (b ∷ s) p.1 in
    let f = rise_from a p.0 (b ∷ s) p.1 in
    record {
      from = inl refl;
      to = subst (λ (z : ℕ). In z (a ∷ b ∷ s)) (sym e) (rise_last a p.0 (b ∷ s) p.1);
      rises = omega (arith, e, f b (inr (inl refl)), r.0 b (inl refl));
      outside = λ z i. (omega (arith, f z i), omega (arith, e, f z i));
    }
