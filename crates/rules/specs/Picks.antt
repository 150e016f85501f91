-- Of the centres that fit, the one with the first road is taken; so the finished tables have the Bellman property of
-- `rules`.
-- (The theorems that follow are in proofs/, under the same name.)
use Rattle.std.specs.Prelude.{◌≡◌, Bool, ◌&&◌, ◌||◌, ◌⊎◌, ltb}
use Rattle.std.proofs.Math.Path.{refl}
use Rattle.std.proofs.Common.{sym, inr, arith}
use Rattle.std.proofs.Math.Bool.{true, false}
use Rattle.std.proofs.Math.Logic.{inl}
use mathlib.Core.List.{List, [], ◌∷◌}
use Prim.Native.Nat.{ℕ, ◌<◌}
use borrow.Author.Tests.{ltb-true, lt-ltb, eqb-true, eq-eqb}
use Rattle.std.proofs.Math.Dec.{eqb}
use Rattle.rules.specs.Cutting.{Less}
use Rattle.rules.specs.Choice.{less}

pub never : {A : Type 0} → true ≡ false → A
never e = let z : ◌≡◌ {A = ℕ} 0 1 = cc in absurd (omega arith)

-- ---- the order, computed
pub less_Less : (s t : List ℕ) → less s t ≡ true → Less s t
less_Less [] t e = never (sym e)
less_Less (a ∷ s) [] e = never (sym e)
less_Less (a ∷ s) (b ∷ t) e = go (ltb a b) (eqb a b) refl refl e (less_Less s t)
  where
    go : (p q : Bool) → ltb a b ≡ p → eqb a b ≡ q → (p || (q && less s t)) ≡ true → (less s t ≡ true → Less s t) →
        (a < b) ⊎ ((a ≡ b) × Less s t)
    go true q h k e f = inl (ltb-true a b h)
    go false true h k e f = inr (eqb-true a b k, f e)
    go false false h k e f = never (sym e)

pub Less-less : (s t : List ℕ) → Less s t → less s t ≡ true
Less-less [] t h = absurd h
Less-less (a ∷ s) [] h = absurd h
Less-less (a ∷ s) (b ∷ t) (inl h) = rw (lt-ltb a b h) refl
Less-less (a ∷ s) (b ∷ t) (inr h) = go (ltb a b) (Less-less s t h.1)
  where
    go : (p : Bool) → less s t ≡ true → (p || (eqb a b && less s t)) ≡ true
    go true e = refl
    go false e = rw (eq-eqb a b h.0, e) refl
