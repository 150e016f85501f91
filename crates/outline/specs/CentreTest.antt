-- The finite test for a centre's sight of corner j from corner i: no side crosses the segment at an inner point of the
-- side, and half way between any two corners on the segment one is in or on. On a simple drawing it equals the
-- definition, which speaks of every point.
--
--             |                   half way between i and k, and between k and j
--      i -----k-------- j         and the side that ends at k does not cross
-- (The theorems that follow are in proofs/, under the same name.)
use Rattle.std.specs.Prelude.{List, ℕ, ◌<◌, ℤ, pos, ◌+ℤ◌}
use Rattle.whole.specs.Order.{positive_pos}
use Rattle.outline.specs.Drawing.{Point, corner, corners, after}
use Rattle.outline.specs.InOrOn.{Spot, InOrOn}
use Rattle.outline.specs.Placed.{On}
use Rattle.outline.specs.Crossing.{Crosses}

-- the point half way between two corners
abbrev pub half : Point → Point → Spot
half a b = record { x = a.x +ℤ b.x; y = a.y +ℤ b.y; r = pos 2; r_above = positive_pos 1 }

pub record FiniteTest (d : List ℤ) (i j : ℕ) : Type 0 where
  pub clear : (k : ℕ) → k < corners d → ¬ Crosses (corner d i) (corner d j) (corner d k) (corner d (after d k))
  pub halves : (k l : ℕ) → k < corners d → l < corners d → On (corner d k) (corner d i) (corner d j) →
      On (corner d l) (corner d i) (corner d j) → InOrOn d (half (corner d k) (corner d l))
