-- What the angle at a corner leaves of a centre's sight, on a sound drawing: a corner that is seen lies inside the
-- angle, or the line of sight begins with one of the two sides there.
--
--              j       i sees j along its side to m: m is a third
--            /         corner on the segment, and whether i sees j
--          m           is whether m does
--        /
--      i ------
-- (The theorems that follow are in proofs/, under the same name.)
use Rattle.std.specs.Prelude.{◌≡◌, refl, ◌⊎◌, List, [], ◌∷◌, ℕ, ◌<◌, ℤ, pos, ◌+ℤ◌, ◌-ℤ◌, ◌*ℤ◌}
use Rattle.whole.specs.Ring.{v, ◌:+◌, ◌:-◌, ◌:*◌, ring}
use Rattle.whole.specs.Order.{Positive, nonneg_pos, positive_nonneg, sub_le}
use Rattle.outline.specs.Drawing.{Point, corner, corners, after}
use Rattle.outline.specs.InOrOn.{Spot, OnSegment}
use Rattle.outline.specs.Spell.{I}
use Rattle.outline.specs.Placed.{On}
use Rattle.outline.specs.Near.{near}

-- ---- a point close to i on the way to j, as 01 says it
unfoldable pub near_spot : (i j : Point) (K : ℤ) → Positive K → Spot
near_spot i j K K+ = record { x = (near i K j).x; y = (near i K j).y; r = K; r_above = K+ }

pub on_near : (i j : Point) (K : ℤ) (K+ : Positive K) → Positive (K -ℤ pos 1) → OnSegment (near_spot i j K K+) i j
unfolding near_spot
on_near i j K K+ big = record {
  p = pos 1;
  q = K;
  q_above = K+;
  p_from = nonneg_pos 1;
  p_to = sub_le (positive_nonneg big);
  on_x = axis i.x j.x;
  on_y = axis i.y j.y;
}
  where
    axis : (i j : ℤ) → K *ℤ (K *ℤ i +ℤ pos 1 *ℤ (j -ℤ i)) ≡ K *ℤ (K *ℤ i +ℤ (j -ℤ i))
    axis i j =
        ring (K ∷ i ∷ j ∷ []) (v 0 :* (v 0 :* v 1 :+ I :* (v 2 :- v 1))) (v 0 :* (v 0 :* v 1 :+ (v 2 :- v 1))) refl

-- ---- lines of sight that begin with a side
-- side k joins the corners i and m
abbrev pub Joins : List ℤ → ℕ → ℕ → ℕ → Type 0
Joins d k i m = ((k ≡ i) × (after d k ≡ m)) ⊎ ((k ≡ m) × (after d k ≡ i))

-- a side at i has its other end on the segment ij
pub record Begins (d : List ℤ) (i j : ℕ) : Type 0 where
  pub side : ℕ
  pub end : ℕ
  pub below : side < corners d
  pub joins : Joins d side i end
  pub on : On (corner d end) (corner d i) (corner d j)
