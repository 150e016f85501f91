-- The lines of a piece: its steps, from each corner to the next, and its closing line, from its first corner to its
-- last (`ends`, of `Count` in `rules`).
--
--     0 . 2 . . 5    The piece 0 2 5 has the steps 0 2 and 2 5, and closes on 0 5.
--      \_/ \___/
use Rattle.std.specs.Prelude.{◌≡◌, refl, ◌⊎◌, List, [], ◌∷◌, ℕ, suc, ◌+◌, ◌≤◌, ◌<◌, length}
use Rattle.std.proofs.Common.{ap, subst, inl, inr, arith}
use Rattle.rules.specs.Lists.{In, Rising, Rise, rise_le, rise_last}
use Rattle.rules.specs.Cutting.{last}
use Rattle.rules.specs.Trees.{rise_is_last}
use Rattle.rules.specs.Regions.{last_of}
use Rattle.rules.specs.Count.{ends}

-- x and y follow each other in the list a ∷ s
abbrev pub Step : ℕ → List ℕ → ℕ → ℕ → Type 0
Step a [] x y = ⊥
Step a (b ∷ s) x y = ((x ≡ a) × (y ≡ b)) ⊎ Step b s x y

-- x and y follow each other in S
abbrev pub Steps : List ℕ → ℕ → ℕ → Type 0
Steps [] x y = ⊥
Steps (a ∷ s) x y = Step a s x y

-- x y is a step of a piece of L
abbrev pub Stepped : List (List ℕ) → ℕ → ℕ → Type 0
Stepped L x y = (R : List ℕ) × In R L × Steps R x y

-- a piece of L closes on x y
abbrev pub Closed : List (List ℕ) → ℕ → ℕ → Type 0
Closed L x y = (R : List ℕ) × In R L × (ends R ≡ (x, y))

-- the corners of a piece: rising, below n, at least three
pub record Shape (n : ℕ) (S : List ℕ) : Type 0 where
  pub rising : Rising S
  pub small : (x : ℕ) → In x S → x < n
  pub three : 3 ≤ length S

-- ---- the steps of a rising list
-- a step rises, and lies between the ends
step_between : (a j : ℕ) (s : List ℕ) → Rise a j s → (x y : ℕ) → Step a s x y → (a ≤ x) × (x < y) × (y ≤ j)
step_between a j [] h x y k = absurd k
step_between a j (b ∷ s) h x y (inl e) =
    (omega (arith, e.0), omega (arith, e, h.0), omega (arith, e.1, rise_le b j s h.1))
step_between a j (b ∷ s) h x y (inr k) =
    let p = step_between b j s h.1 x y k in (omega (arith, h.0, p.0), p.1, p.2)

-- of three corners or more, the second comes before the last
pub before_last : (a b j : ℕ) (s : List ℕ) → Rise a j (b ∷ s) → 3 ≤ length (a ∷ b ∷ s) → b < j
before_last a b j [] h three = absurd (omega arith)
before_last a b j (c ∷ s) h three = omega (arith, h.1.0, rise_le c j s h.1.1)

-- so that each step is narrower than the closing line
pub narrow : (a j : ℕ) (s : List ℕ) → Rise a j s → 3 ≤ length (a ∷ s) → (x y : ℕ) → Step a s x y → y + a < j + x
narrow a j [] h three x y k = absurd k
narrow a j (b ∷ s) h three x y (inl e) = omega (arith, e, before_last a b j s h three)
narrow a j (b ∷ s) h three x y (inr k) = omega (arith, h.0, step_between b j s h.1 x y k)

-- ---- the closing line
-- a list that rises from a to j closes on a j
pub ends_of : (a j : ℕ) (s : List ℕ) → Rise a j s → ends (a ∷ s) ≡ (a, j)
ends_of a j s h = ap (λ z. (a, z)) (rise_is_last a j s h)

-- the piece S by its closing line a j
pub record Spans (n : ℕ) (S : List ℕ) (a j : ℕ) : Type 0 where
  pub rest : List ℕ
  pub is : S ≡ a ∷ rest
  pub rise : Rise a j rest
  pub three : 3 ≤ length (a ∷ rest)
  pub wide : suc a < j
  pub small : j < n

-- each piece has one
pub spans : (n : ℕ) (S : List ℕ) → Shape n S → Spans n S (ends S).0 (ends S).1
spans n [] h = absurd (omega (arith, h.three))
spans n (a ∷ []) h = absurd (omega (arith, h.three))
spans n (a ∷ b ∷ s) h =
    let p = last_of a (b ∷ s) h.rising in
    let rise : Rise a (last b s) (b ∷ s) = rw (rise_is_last a p.0 (b ∷ s) p.1) p.1 in
    record {
      rest = b ∷ s;
      is = refl;
      rise = rise;
      three = h.three;
      wide = omega (arith, rise.0, before_last a b (last b s) s rise h.three);
      small = h.small (last b s) (rise_last a (last b s) (b ∷ s) rise);
    }

-- and on whichever line it closes, it is that one
pub spans_line : (n : ℕ) (S : List ℕ) (a j : ℕ) → Shape n S → ends S ≡ (a, j) → Spans n S a j
spans_line n S a j h e = subst (λ (z : ℕ × ℕ). Spans n S z.0 z.1) e (spans n S h)
