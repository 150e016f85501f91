-- For one centre: the cheapest road of corners that it sees, by its first step.
-- For each corner a the table holds what the cheapest road from a to the end j costs, and its next corner, the
-- smallest on a tie; then the road that the next corners lead along is the first of the cheapest. (Corners at which to
-- split a road in the middle would not give the first.)
-- (The theorems that follow are in proofs/, under the same name.)
use Rattle.std.specs.Prelude.{◌≡◌, refl, true, false, List, [], ◌∷◌, ◌++◌, ℕ, zero, suc, ◌+◌, ◌≤◌, ◌<◌, ltb}
use Rattle.std.proofs.Common.{sym, ap, subst, inl, inr, arith, lt-ltb, le-ltb}
use Rattle.rules.specs.Lists.{In, rise_last}
use Rattle.rules.specs.Table.{Road, road_rise, Head, rise_head, sum}

-- ---- a road that passes x is a road to x and one from x
module _ (way : ℕ → ℕ → Type 0) where
  pub road_split : (a x j : ℕ) (s : List ℕ) → Road way a j s → In x s →
      (s₁ : List ℕ) × (s₂ : List ℕ) × Road way a x s₁ × Road way x j s₂ × (s ≡ s₁ ++ s₂)
  road_split a x j [] r i = absurd i
  road_split a x j (b ∷ s) r (inl e) =
      (b ∷ [], s, (r.0, r.1, sym e), subst (λ y. Road way y j s) (sym e) r.2, refl)
  road_split a x j (b ∷ s) r (inr i) =
      let p = road_split b x j s r.2 i in
      (b ∷ p.0, p.1, (r.0, r.1, p.2), p.3, ap (b ∷◌) p.4)

  pub road_join : (a x j : ℕ) (s t : List ℕ) → Road way a x s → Road way x j t → Road way a j (s ++ t)
  road_join a x j [] t r r' = rw r r'
  road_join a x j (b ∷ s) t r r' = (r.0, r.1, road_join b x j s t r.2 r')

  pub sum_join : (val : ℕ → ℕ → ℕ) (a x : ℕ) (s t : List ℕ) → Road way a x s →
      sum val a (s ++ t) ≡ sum val a s + sum val x t
  sum_join val a x [] t r = rw r (omega arith)
  sum_join val a x (b ∷ s) t r = omega (arith, sum_join val b x s t r.2)

  pub road_head : (a j : ℕ) (s : List ℕ) → Road way a j s → Head (suc j) s
  road_head a j s r = rise_head a j s (road_rise way a j s r)

  pub road_reaches : (a j : ℕ) (s : List ℕ) → a < j → Road way a j s → In j s
  road_reaches a j s lt r = go (rise_last a j s (road_rise way a j s r))
    where
      go : In j (a ∷ s) → In j s
      go (inl e) = absurd (omega arith)
      go (inr i) = i

-- ---- the corners that the next corners lead along, from a to j; f bounds their number
abbrev pub path : (ℕ → ℕ) → ℕ → ℕ → ℕ → List ℕ
path next j zero a = []
path next j (suc f) a = elim (ltb a j) [ true ↦ next a ∷ path next j f (next a) | false ↦ [] ]

pub path_more : (next : ℕ → ℕ) (j f a : ℕ) → a < j → path next j (suc f) a ≡ next a ∷ path next j f (next a)
path_more next j f a lt = rw (lt-ltb a j lt, path)

pub path_end : (next : ℕ → ℕ) (j f a : ℕ) → j ≤ a → path next j f a ≡ []
path_end next j zero a le = refl
path_end next j (suc f) a le = rw (le-ltb a j le, path)

-- ---- roads of seen corners: each step leads to a corner that is seen
module _ (way : ℕ → ℕ → Type 0) (see : ℕ → Type 0) where
  abbrev pub SeenStep : ℕ → ℕ → Type 0
  SeenStep a b = way a b × see b

  pub seen_road : (a j : ℕ) (s : List ℕ) → Road SeenStep a j s → Road way a j s × ((y : ℕ) → In y s → see y)
  seen_road a j [] r = (r, λ y i. absurd i)
  seen_road a j (b ∷ s) r = let q = seen_road b j s r.2 in ((r.0, r.1.0, q.0), all q.1)
    where
      all : ((y : ℕ) → In y s → see y) → (y : ℕ) → In y (b ∷ s) → see y
      all f y (inl e) = rw e r.1.1
      all f y (inr i) = f y i

  pub road_seen : (a j : ℕ) (s : List ℕ) → Road way a j s → ((y : ℕ) → In y s → see y) → Road SeenStep a j s
  road_seen a j [] r f = r
  road_seen a j (b ∷ s) r f = (r.0, (r.1, f b (inl refl)), road_seen b j s r.2 (λ y i. f y (inr i)))

  -- its first corner below top
  abbrev pub SeenRoad : ℕ → ℕ → ℕ → List ℕ → Type 0
  SeenRoad a j top s = Road SeenStep a j s × Head top s
