-- Finished tables hold the cheapest roads of `rules`: for a centre x and an end t that it sees, each cell is one step
-- of Bellman's equation, and the next corners lead along the first of the cheapest roads.
-- (The theorems that follow are in proofs/, under the same name.)
use Rattle.std.specs.Prelude.{◌≡◌, ℕ, ◌<◌}

-- the line i j has a value
abbrev pub May : ℕ → (ℕ → ℕ → ℕ) → ℕ → ℕ → Type 0
May top val i j = val i j < top

-- x sees y
abbrev pub Sees : (ℕ → ℕ → ℕ) → ℕ → ℕ → Type 0
Sees veil x y = veil y x ≡ 0
