-- A drawing as the laws of "in or on" read it: a function from numbers to corners whose corner n is its corner 0, so
-- that side m goes from corner m to corner m + 1. A point is a pair of whole numbers; a point (x, y) / r is one of the
-- drawing r times as large.
use Rattle.std.specs.Prelude.{◌≡◌, Bool, true, ◌⊎◌, ℕ, suc, ◌<◌, ℤ, ◌*ℤ◌}
use Rattle.outline.specs.Drawing.{Point}
use Rattle.outline.specs.Passing.{crosses}
use Rattle.outline.specs.Odd as numbers
use Rattle.outline.specs.Placed.{On}

abbrev pub pt : ℤ → ℤ → Point
pt a b = record { x = a; y = b }

-- of the first m sides an odd number pass at z's height strictly to its right, with one end higher than z and the
-- other not
abbrev pub odd : (ℕ → Point) → Point → ℕ → Bool
odd c z m = numbers.odd (λ k. crosses z (c k) (c (suc k))) m

pub record OnSide (c : ℕ → Point) (n : ℕ) (z : Point) : Type 0 where
  pub m : ℕ
  pub below : m < n
  pub on : On z (c m) (c (suc m))

abbrev pub InOn : (ℕ → Point) → ℕ → Point → Type 0
InOn c n z = OnSide c n z ⊎ (odd c z n ≡ true)

-- a point k times as far out, a drawing k times as large
abbrev pub out : ℤ → Point → Point
out k a = record { x = k *ℤ a.x; y = k *ℤ a.y }

abbrev pub large : ℤ → (ℕ → Point) → ℕ → Point
large k c m = out k (c m)

-- the point z / r lies in or on the drawing
abbrev pub Holds : (ℕ → Point) → ℕ → Point → ℤ → Type 0
Holds c n z r = InOn (large r c) n z
