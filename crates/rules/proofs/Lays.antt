-- The theorems of `Lays`: its definitions and first laws are in specs/.
use Rattle.std.specs.Prelude.{◌≡◌, refl, Bool, true, false, List, ℕ, T}
use Rattle.std.proofs.Common.{sym, subst, inl, inr}
use Rattle.rules.specs.Lists.{In, Rising}
use Rattle.rules.specs.Centre.{HasCentre, Lowest, LowestOrZero, Layout}
use Rattle.rules.specs.Lays.{Says, centre, centre_lowest, has_centre, has_centre_lem, lay_layout, lays, none_first}

pub centre_shown : (sees : ℕ → ℕ → Bool) (S : List ℕ) → Rising S → LowestOrZero (Says sees) (centre sees S) S
centre_shown sees S r = go (has_centre sees S) refl
  where
    go : (b : Bool) → has_centre sees S ≡ b → LowestOrZero (Says sees) (centre sees S) S
    go true e = inl (centre_lowest sees S r ((has_centre_lem sees S).0 (subst T (sym e) tt)))
    go false e = inr ((λ h. subst T e ((has_centre_lem sees S).1 h)), none_first _ S e)

pub lays_layout : (sees : ℕ → ℕ → Bool) (l : List (List ℕ)) → ((S : List ℕ) → In S l → Rising S) →
    ((S : List ℕ) → In S l → HasCentre (Says sees) S) → Layout (Lowest (Says sees)) l (lays sees l)
lays_layout sees l r h = lay_layout (centre sees) (Lowest (Says sees)) l (λ S i. centre_lowest sees S (r S i) (h S i))
