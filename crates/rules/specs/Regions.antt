-- The pieces told of a set of uncrossed pairs are its regions, each once. (01: "Its pieces are the regions left".)
-- Two regions with the same first and last corner are the same, and on each pair of the set there stands a piece of
-- its tree.
-- (The theorems that follow are in proofs/, under the same name.)
use Rattle.std.specs.Prelude.{◌≡◌, refl, ◌⊎◌, List, [], ◌∷◌, ℕ, ◌≤◌, ◌<◌, length}
use Rattle.std.proofs.Common.{inl, inr, arith}
use Rattle.std.proofs.Math.Logic.{⊎_map}
use Rattle.rules.specs.Lists.{In, Rising, Rise, rise_le, rise_from}
use Rattle.rules.specs.Cutting.{Inside}
use Rattle.rules.specs.Order.{tri}

-- ---- two regions with the same first and last corner are the same
-- two neighbours of a rising list, with b between them
pub record Gap (p b : ℕ) (s : List ℕ) : Type 0 where
  pub x : ℕ
  pub y : ℕ
  pub in_x : In x (p ∷ s)
  pub in_y : In y (p ∷ s)
  pub lower : x < b
  pub upper : b < y
  pub none : Inside (p ∷ s) x y

pub straddle : (b j p : ℕ) (s : List ℕ) → Rise p j s → p ≤ b → b ≤ j → In b (p ∷ s) ⊎ Gap p b s
straddle b j p [] h ge le = inl (inl (omega arith))
straddle b j p (c ∷ s) h ge le = go (λ l. straddle b j c s h.1 l le) (tri b p) (tri b c)
  where
    wider : Gap c b s → Gap p b (c ∷ s)
    wider g = record {
      x = g.x;
      y = g.y;
      in_x = inr g.in_x;
      in_y = inr g.in_y;
      lower = g.lower;
      upper = g.upper;
      none = none;
    }
      where
        none : Inside (p ∷ c ∷ s) g.x g.y
        none z (inl e) l m = omega (arith, h.0, rise_from c j s h.1 g.x g.in_x)
        none z (inr i) l m = g.none z i l m

    here : Inside (p ∷ c ∷ s) p c
    here z (inl e) l m = omega arith
    here z (inr i) l m = omega (arith, rise_from c j s h.1 z i)

    go : (c ≤ b → In b (c ∷ s) ⊎ Gap c b s) → (b < p) ⊎ ((b ≡ p) ⊎ (p < b)) → (b < c) ⊎ ((b ≡ c) ⊎ (c < b)) →
        In b (p ∷ c ∷ s) ⊎ Gap p b (c ∷ s)
    go f (inl k) d = absurd (omega arith)
    go f (inr (inl k)) d = inl (inl k)
    go f (inr (inr k)) (inl l) =
        inr (record { x = p; y = c; in_x = inl refl; in_y = inr (inl refl); lower = k; upper = l; none = here })
    go f (inr (inr k)) (inr (inl e)) = inl (inr (inl e))
    go f (inr (inr k)) (inr (inr l)) = ⊎_map inr wider (f (omega arith))

-- a rising list goes up to its last number
pub last_of : (a : ℕ) (s : List ℕ) → Rising (a ∷ s) → (j : ℕ) × Rise a j s
last_of a [] h = (a, refl)
last_of a (b ∷ s) h = let p = last_of b s h.1 in (p.0, (h.0 b (inl refl), p.1))

-- at least one corner lies between the first and the last of three
pub middle : (a j : ℕ) (s : List ℕ) → Rise a j s → 3 ≤ length (a ∷ s) → (b : ℕ) × In b (a ∷ s) × (a < b) × (b < j)
middle a j [] h le = absurd (omega arith)
middle a j (b ∷ []) h le = absurd (omega arith)
middle a j (b ∷ c ∷ s) h le = (b, inr (inl refl), h.0, omega (arith, h.1.0, rise_le c j s h.1.1))
