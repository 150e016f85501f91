-- The theorems of `Computed`: its definitions and first laws are in specs/.
use Rattle.std.specs.Prelude.{◌≡◌, refl, Bool, true, false, ℕ, suc, ◌≤◌, ◌<◌, T}
use mathlib.Core.List.{List, [], ◌∷◌, flat_map}
use Rattle.std.proofs.Common.{arith}
use Rattle.rules.specs.Lists.{In}
use Rattle.rules.specs.Cutting.{Pairs, Tree, Valid, tree, pieces, told, one, First}
use Rattle.rules.specs.Trees.{Node}
use Rattle.rules.specs.Uses.{uses}
use Rattle.rules.proofs.Valid.{valid_tree, range_valid, pieces_uses, best_first}
use Rattle.rules.proofs.Listing.{cut, ok, listing, listing_all, listing_none}
use Rattle.rules.proofs.Pick.{pick, pick_best}
use Rattle.rules.specs.Computed.{fan, three?}

module _ (cut? : ℕ → ℕ → Bool) (ok? : List ℕ → Bool) (m : ℕ) where
  -- a valid cutting of m + 1 corners is listed, by its tree
  pub cutting_listed : 2 ≤ m → (C : Pairs) → Valid (cut cut? ok?) (ok cut? ok?) (suc m) C →
      In (tree (suc m) C) (listing cut? ok? 0 m)
  cutting_listed le C va = (listing_all cut? ok? 0 m (omega arith)).every (tree (suc m) C)
      (valid_tree (cut cut? ok?) (ok cut? ok?) m C le va)

  -- and what is listed is a valid cutting, told as its tree is
  pub listed_cutting : 0 < m → (t : Tree) → In t (listing cut? ok? 0 m) →
      Valid (cut cut? ok?) (ok cut? ok?) (suc m) (uses 0 t) × (pieces (suc m) (uses 0 t) ≡ told 0 t)
  listed_cutting lt t i =
      let r = (listing_all cut? ok? 0 m lt).only t i in
      (range_valid (cut cut? ok?) (ok cut? ok?) m t r, pieces_uses (cut cut? ok?) (ok cut? ok?) m t r)

  -- where nothing is listed, no cutting is valid
  pub none_listed : 2 ≤ m → listing cut? ok? 0 m ≡ [] → (C : Pairs) → ¬ Valid (cut cut? ok?) (ok cut? ok?) (suc m) C
  none_listed le e C va =
      listing_none cut? ok? 0 m (omega arith) e (tree (suc m) C) (valid_tree (cut cut? ok?) (ok cut? ok?) m C le va)

  -- where something is, the pick is the first of the lightest cuttings
  pub pick_first : (w : ℕ → ℕ → ℕ) → 0 < m → (t : Tree) → pick w 0 m (listing cut? ok? 0 m) ≡ t → Node t →
      First (cut cut? ok?) (ok cut? ok?) w (suc m) (uses 0 t) × (pieces (suc m) (uses 0 t) ≡ told 0 t)
  pick_first w lt t e k =
      best_first (cut cut? ok?) (ok cut? ok?) w m t (rw e at (pick_best cut? ok? w 0 m lt (rw e k)))

triangles : First (λ a b. Unit {0}) (λ S. T (three? S)) one 5 (uses 0 fan) ×
    (pieces 5 (uses 0 fan) ≡ (0 ∷ 1 ∷ 4 ∷ []) ∷ (1 ∷ 2 ∷ 4 ∷ []) ∷ (2 ∷ 3 ∷ 4 ∷ []) ∷ [])
unfolding three? fan flat_map
triangles = pick_first (λ a b. true) three? 4 one (omega arith) fan refl tt

none_allowed : (C : Pairs) → ¬ Valid (λ a b. Unit {0}) (λ S. ⊥) 5 C
unfolding flat_map
none_allowed = none_listed (λ a b. true) (λ S. false) 4 (omega arith) refl
