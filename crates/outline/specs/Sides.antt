-- A drawing is simple when each of its sides stands: it is enough to look at each pair of sides once.
use Rattle.std.specs.Prelude.{◌≡◌, refl, Bool, true, false, List, ℕ, ◌<◌, ltb, ℤ}
use Rattle.std.proofs.Common.{arith, ltb-true, ltb-false}
use Rattle.outline.specs.Drawing.{corner, corners, SharedOnlyAt, Simple, after, SidesShare}
use Rattle.outline.specs.Segments.{exchanged}

-- sides i and j are neighbours, or share no point
pub record SidesApart (d : List ℤ) (i j : ℕ) : Type 0 where
  pub apart : ¬ (after d i ≡ j) → ¬ (after d j ≡ i) → ¬ SidesShare d i j

-- side i has two ends, shares only its end with the side after it, and nothing with the others before it
pub record SideStands (d : List ℤ) (i : ℕ) : Type 0 where
  pub two_ends : ¬ (corner d i ≡ corner d (after d i))
  pub neighbour :
      SharedOnlyAt (corner d (after d i)) (corner d i) (corner d (after d i)) (corner d (after d i))
      (corner d (after d (after d i)))
  pub others : (j : ℕ) → j < i → SidesApart d i j

module _ {d : List ℤ} where
  pub simple_of : ((i : ℕ) → i < corners d → SideStands d i) → Simple d
  simple_of f = record {
    two_ends = λ i h. (f i h).two_ends;
    neighbours = λ i h. (f i h).neighbour;
    others = λ i j hi hj. go i j hi hj (ltb j i) refl;
  }
    where
      -- the later side has looked at the other
      go : (i j : ℕ) → i < corners d → j < corners d → (t : Bool) → ltb j i ≡ t →
          ¬ (i ≡ j) → ¬ (after d i ≡ j) → ¬ (after d j ≡ i) → ¬ SidesShare d i j
      go i j hi hj true e n p q s = ((f i hi).others j (ltb-true j i e)).apart p q s
      go i j hi hj false e n p q s = ((f j hj).others i (omega (arith, ltb-false j i e, n))).apart q p (exchanged s)

  pub stands_of : Simple d → (i : ℕ) → i < corners d → SideStands d i
  stands_of s i h = record {
    two_ends = s.two_ends i h;
    neighbour = s.neighbours i h;
    others = λ j k. record { apart = s.others i j h (omega arith) (λ e. omega arith) };
  }
