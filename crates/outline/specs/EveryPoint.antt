-- What a centre's sight asks of a drawing as `Parity` has it: every point of the segment lies in or on the drawing.
-- And the finite test that answers it.
use Rattle.std.specs.Prelude.{◌≡◌, ◌⊎◌, ℕ, suc, ◌<◌, ℤ, pos, ◌+ℤ◌}
use Rattle.whole.specs.Order.{Positive}
use Rattle.outline.specs.Drawing.{Point, Shared}
use Rattle.outline.specs.Placed.{On}
use Rattle.outline.specs.Along.{len2}
use Rattle.outline.specs.Parity.{pt, out, Holds}
use Rattle.outline.specs.Crossing.{Crosses}

-- every point z / r of the segment from I to J lies in or on the drawing
abbrev pub Sight : (ℕ → Point) → ℕ → Point → Point → Type 0
Sight c n I J = (z : Point) (r : ℤ) → Positive r → On z (out r I) (out r J) → Holds c n z r

-- twice the point half way between a and b
abbrev pub sum2 : Point → Point → Point
sum2 a b = pt (a.x +ℤ b.x) (a.y +ℤ b.y)

-- no side crosses the segment, and half way between any two corners on it one is in or on
pub record Test (c : ℕ → Point) (n i j : ℕ) : Type 0 where
  pub clear : (m : ℕ) → m < n → ¬ Crosses (c i) (c j) (c m) (c (suc m))
  pub mids : (k l : ℕ) → k < n → l < n → On (c k) (c i) (c j) → On (c l) (c i) (c j) →
      Holds c n (sum2 (c k) (c l)) (pos 2)

-- what is used of a simple drawing: its sides have two different ends, and a point of two sides is an end of the first
abbrev pub AtEnd : Point → Point → Point → Point → Type 0
AtEnd a b c e = (s : Shared a b c e) → (s.p ≡ pos 0) ⊎ (s.p ≡ s.r)

pub record Simple (c : ℕ → Point) (n : ℕ) : Type 0 where
  pub ends : (m : ℕ) → m < n → Positive (len2 (c m) (c (suc m)))
  pub apart : (m k : ℕ) → m < n → k < n → ¬ (m ≡ k) → AtEnd (c m) (c (suc m)) (c k) (c (suc k))
