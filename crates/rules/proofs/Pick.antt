-- The first of the lightest trees of a listing is the best tree of its range.
use Rattle.std.specs.Prelude.{◌≡◌, refl, Bool, true, false, ◌⊎◌, List, [], ◌∷◌, ℕ, ◌≤◌, ◌<◌, T, ltb}
use Rattle.std.proofs.Common.{sym, ap, subst, inl, inr, arith, ltb→lt, lt→ltb}
use Rattle.rules.specs.Lists.{In}
use Rattle.rules.specs.Cutting.{Tree, leaf, told, flat, Less}
use Rattle.rules.specs.Trees.{Node, Range}
use Rattle.rules.proofs.Trees.{total}
use Rattle.rules.specs.Order.{less_trans}
use Rattle.rules.proofs.Order.{Best}
use Rattle.rules.specs.Sorted.{Sorted, Listed}
use Rattle.rules.proofs.Listing.{listing, listing_all}

module _ (w : ℕ → ℕ → ℕ) (i j : ℕ) where
  -- of t and the trees of l, where k is the weight of t; a tree that is as light as an earlier one is not taken
  abbrev pub lightest : ℕ → Tree → List Tree → Tree
  lightest k t [] = t
  lightest k t (u ∷ l) = let v = total w i j u in elim (ltb v k) [ true ↦ lightest v u l | false ↦ lightest k t l ]

  -- of a list; `leaf` where it is empty
  abbrev pub pick : List Tree → Tree
  pick [] = leaf
  pick (t ∷ l) = lightest (total w i j t) t l

  abbrev Before : Tree → Tree → Type 0
  Before t t' = Less (flat (told i t)) (flat (told i t'))

  record Picked (l : List Tree) (p : Tree) : Type 0 where
    member : In p l
    least : (t : Tree) → In t l → total w i j p ≤ total w i j t
    first : (t : Tree) → In t l → total w i j t ≤ total w i j p → (p ≡ t) ⊎ Before p t

  picked_one : (t : Tree) → Picked (t ∷ []) t
  picked_one t = record { member = inl refl; least = least'; first = first' }
    where
      least' : (u : Tree) → In u (t ∷ []) → total w i j t ≤ total w i j u
      least' u (inl e) = rw e (omega arith)
      least' u (inr k) = elim k [ ]

      first' : (u : Tree) → In u (t ∷ []) → total w i j u ≤ total w i j t → (t ≡ u) ⊎ Before t u
      first' u (inl e) le = inl (sym e)
      first' u (inr k) le = elim k [ ]

  -- a heavier tree in front is passed over
  picked_later : (t p : Tree) (l : List Tree) → total w i j p < total w i j t → Picked l p → Picked (t ∷ l) p
  picked_later t p l lt P = record { member = inr P.member; least = least'; first = first' }
    where
      least' : (u : Tree) → In u (t ∷ l) → total w i j p ≤ total w i j u
      least' u (inl e) = rw e (omega arith)
      least' u (inr k) = P.least u k

      first' : (u : Tree) → In u (t ∷ l) → total w i j u ≤ total w i j p → (p ≡ u) ⊎ Before p u
      first' u (inl e) le = absurd (omega (arith, ap (total w i j) e))
      first' u (inr k) le = P.first u k le

  -- and so is one that is not lighter and stands after t
  picked_earlier : (t u p : Tree) (l : List Tree) → Before t u → total w i j t ≤ total w i j u → Picked (t ∷ l) p →
      Picked (t ∷ u ∷ l) p
  picked_earlier t u p l b le P = record { member = wider P.member; least = least'; first = first' }
    where
      wider : In p (t ∷ l) → In p (t ∷ u ∷ l)
      wider (inl e) = inl e
      wider (inr k) = inr (inr k)

      least' : (x : Tree) → In x (t ∷ u ∷ l) → total w i j p ≤ total w i j x
      least' x (inl e) = P.least x (inl e)
      least' x (inr (inl e)) = rw e (omega (arith, P.least t (inl refl)))
      least' x (inr (inr k)) = P.least x (inr k)

      after : (p ≡ t) ⊎ Before p t → Before p u
      after (inl e) = rw e b
      after (inr q) = less_trans (flat (told i p)) (flat (told i t)) (flat (told i u)) q b

      first' : (x : Tree) → In x (t ∷ u ∷ l) → total w i j x ≤ total w i j p → (p ≡ x) ⊎ Before p x
      first' x (inl e) h = P.first x (inl e) h
      first' x (inr (inl e)) h = rw e (inr (after (P.first t (inl refl) (omega (arith, ap (total w i j) e)))))
      first' x (inr (inr k)) h = P.first x (inr k) h

  lightest_picked : (t : Tree) (l : List Tree) → Sorted Before (t ∷ l) → Picked (t ∷ l) (lightest (total w i j t) t l)
  lightest_picked t [] s = picked_one t
  lightest_picked t (u ∷ l) s =
      go (ltb (total w i j u) (total w i j t)) refl (lightest_picked u l s.1)
      (lightest_picked t l ((λ y k. s.0 y (inr k)), s.1.1))
    where
      go : (b : Bool) → ltb (total w i j u) (total w i j t) ≡ b → Picked (u ∷ l) (lightest (total w i j u) u l) →
          Picked (t ∷ l) (lightest (total w i j t) t l) →
          Picked (t ∷ u ∷ l) (elim b [ true ↦ lightest (total w i j u) u l | false ↦ lightest (total w i j t) t l ])
      go true q P Q =
          let lt = ltb→lt (total w i j u) (total w i j t) (rw q tt) in
          picked_later t _ (u ∷ l) (omega (arith, P.least u (inl refl))) P
      go false q P Q =
          let no : ¬ (total w i j u < total w i j t) = λ lt. subst T q (lt→ltb (total w i j u) (total w i j t) lt) in
          picked_earlier t u _ l (s.0 u (inl refl)) (omega arith) Q

  module _ (cut : ℕ → ℕ → Type 0) (ok : List ℕ → Type 0) where
    pick_listed : (l : List Tree) → Listed (Range cut ok i j) Before l → Node (pick l) → Best cut ok w i j (pick l)
    pick_listed [] L h = absurd h
    pick_listed (t ∷ l) L h =
        let P = lightest_picked t l L.sorted in
        record {
          fits = L.only _ P.member;
          least = λ u r. P.least u (L.every u r);
          first = λ u r. P.first u (L.every u r);
        }

-- where the listing of a range is not empty, its pick is the best tree
pub pick_best : (cut? : ℕ → ℕ → Bool) (ok? : List ℕ → Bool) (w : ℕ → ℕ → ℕ) (i j : ℕ) → i < j →
    Node (pick w i j (listing cut? ok? i j)) →
    Best (λ a b. T (cut? a b)) (λ S. T (ok? S)) w i j (pick w i j (listing cut? ok? i j))
pick_best cut? ok? w i j lt h =
    pick_listed w i j (λ a b. T (cut? a b)) (λ S. T (ok? S)) (listing cut? ok? i j) (listing_all cut? ok? i j lt) h
