-- The theorems of `CentreParts`: its definitions and first laws are in specs/.
use Rattle.std.specs.Prelude.{◌≡◌, ◌⊎◌, List, ℕ, ℤ}
use Rattle.std.proofs.Common.{inl, inr}
use Rattle.whole.specs.Order.{Positive}
use Rattle.outline.specs.Drawing.{corner, corners}
use Rattle.outline.specs.InOrOn.{CentreSees}
use Rattle.outline.specs.Placed.{On}
use Rattle.outline.specs.Parity.{InOn, out, large}
use Rattle.outline.specs.Scale.{apart_scale, on_scale}
use Rattle.outline.specs.EveryPoint.{Sight}
use Rattle.outline.specs.Reading.{round}
use Rattle.outline.proofs.Reading.{sight_read, sight_said}
use Rattle.outline.specs.CentreParts.{on_either, on_part, part_on}

-- ---- so for sight
module _ (d : List ℤ) (i j k : ℕ) (q : On (corner d k) (corner d i) (corner d j)) where
  -- the corner, in a drawing r times as large
  grown : (r : ℤ) → Positive r → On (out r (corner d k)) (out r (corner d i)) (out r (corner d j))
  grown r r+ = on_scale r (corner d k) (corner d i) (corner d j) r+ q

  pub sees_parts : CentreSees d i j → CentreSees d i k × CentreSees d k j
  sees_parts s = (sight_said d i k first, sight_said d k j second)
    where
      first : Sight (round d) (corners d) (corner d i) (corner d k)
      first z r r+ o =
          sight_read d i j s z r r+
          (on_part z (out r (corner d i)) (out r (corner d k)) (out r (corner d j)) o (grown r r+))

      second : Sight (round d) (corners d) (corner d k) (corner d j)
      second z r r+ o =
          sight_read d i j s z r r+
          (part_on z (out r (corner d i)) (out r (corner d k)) (out r (corner d j)) (grown r r+) o)

  pub parts_see : ¬ (corner d i ≡ corner d k) → ¬ (corner d k ≡ corner d j) → CentreSees d i k → CentreSees d k j →
      CentreSees d i j
  parts_see ik kj s t = sight_said d i j whole
    where
      whole : Sight (round d) (corners d) (corner d i) (corner d j)
      whole z r r+ o =
          go (on_either z (out r (corner d i)) (out r (corner d k)) (out r (corner d j)) o (grown r r+)
          (apart_scale r (corner d i) (corner d k) r+ ik) (apart_scale r (corner d k) (corner d j) r+ kj))
        where
          go : On z (out r (corner d i)) (out r (corner d k)) ⊎ On z (out r (corner d k)) (out r (corner d j)) →
              InOn (large r (round d)) (corners d) z
          go (inl h) = sight_read d i k s z r r+ h
          go (inr h) = sight_read d k j t z r r+ h
