-- The theorems of `Sorted`: its definitions and first laws are in specs/.
use Rattle.std.specs.Prelude.{◌≡◌, ℕ, zero, suc, ◌+◌, ◌<◌}
use Rattle.std.proofs.Math.Path.{refl}
use Rattle.std.proofs.Common.{ap, arith}
use Rattle.std.proofs.Math.Logic.{inr}
use mathlib.Core.List.{List, [], ◌∷◌, ◌++◌, flat_map}
use Rattle.rules.specs.Cutting.{Less}
use Rattle.rules.specs.Sorted.{At, From, Listed, at_from, at_later, from_only, from_split, later_from, listed_append, listed_map, listed_one, rises}

rises_more : (c j : ℕ) (r : List (List ℕ)) → c < j → Listed (From (suc c) j) Less r →
    Listed (From c j) Less (flat_map (λ s. (c ∷ s) ∷ []) r ++ r)
rises_more c j r lt L =
    listed_append (From c j) Less (At c j) (From (suc c) j) (flat_map (λ s. (c ∷ s) ∷ []) r) r
    (listed_map (From (suc c) j) Less (At c j) Less (c ∷◌) r L (λ s h. (refl, h)) rest (λ s t l. inr (refl, l)))
    L (at_from c j) (later_from c j) (from_split c j lt) (at_later c j)
  where
    rest : (s : List ℕ) → At c j s → (t : List ℕ) × From (suc c) j t × (s ≡ c ∷ t)
    rest [] h = absurd h
    rest (b ∷ s) h = (s, h.1, ap (◌∷ s) h.0)

pub rises_all : (k c j : ℕ) → c + k ≡ j → Listed (From c j) Less (rises k c)
rises_all zero c j e =
    let q : j ≡ c = omega arith in
    rw q (listed_one (From c c) Less (c ∷ []) (omega arith, refl) (from_only c))
rises_all (suc k) c j e = rises_more c j (rises k (suc c)) (omega arith) (rises_all k (suc c) j (omega arith))
