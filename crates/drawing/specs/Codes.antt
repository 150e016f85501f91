-- What a look finds of two corners, as the code that stands in their cells; and what a code tells.
use Rattle.std.specs.Prelude.{◌≡◌, Bool, ◌&&◌, List, ℕ, ◌+◌, ◌≤◌, ◌<◌, ℤ}
use Rattle.std.proofs.Common.{inl, inr, arith}
use Rattle.outline.specs.Drawing.{Sound, corners, Beside, Sees}
use Rattle.outline.specs.InOrOn.{CentreSees}
use Rattle.outline.specs.Tells.{Tells, same_as, and_tells}
use Rattle.outline.specs.Placed.{on_turn}
use Rattle.outline.specs.Way.{GrazedBy}
use Rattle.outline.specs.Seeing.{sees_mutual}
use Rattle.outline.specs.CentreSight.{centre_mutual, centre_beside}
use Rattle.outline.proofs.TwoKinds.{strict_centre}
use Rattle.outline.proofs.Third.{third_unseen, third_parts}
use Rattle.drawing.specs.Sight.{Cell}
use Rattle.drawing.specs.Table.{Grazed, Code}

-- ---- the values of a cell
module _ {P Q : Type 0} {v : ℕ} where
  pub holds_none : v ≡ 0 → ¬ P → ¬ Q → Cell v P Q
  holds_none e n m = record {
    small = omega arith;
    one = (λ f. absurd (omega arith), λ p. absurd (n p));
    two = (λ f. absurd (omega arith), λ q. absurd (m q));
  }

  pub holds_second : v ≡ 2 → ¬ P → Q → Cell v P Q
  holds_second e n q = record {
    small = omega arith;
    one = (λ f. absurd (omega arith), λ p. absurd (n p));
    two = (λ f. q, λ _. omega arith);
  }

  pub holds_both : v ≡ 3 → P → Q → Cell v P Q
  holds_both e p q = record { small = omega arith; one = (λ f. p, λ _. omega arith); two = (λ f. q, λ _. omega arith) }

-- ---- of two corners
module _ {d : List ℤ} {i j v : ℕ} where
  pub code_beside : i < corners d → j < corners d → Beside d i j → v ≡ 3 → Code d i j v
  code_beside hi hj b e = inl (holds_both e (record { sees = inl b }) (centre_beside i j hi hj b))

  pub code_grazed : {k : ℕ} → GrazedBy d i j k → v ≡ 4 + k → Code d i j v
  code_grazed {k} g e = inr (record { third = k; is = e; by = g })

  -- the other way round
  pub code_back : Code d i j v → Code d j i v
  code_back (inl c) = inl (record {
    small = c.small;
    one = (λ e. sees_mutual (c.one.0 e), λ s. c.one.1 (sees_mutual s));
    two = (λ e. centre_mutual (c.two.0 e), λ s. c.two.1 (centre_mutual s));
  })
  code_back (inr g) =
      let k = g.by in
      inr (record {
        third = g.third;
        is = g.is;
        by = record { below = k.below; not_i = k.not_j; not_j = k.not_i; on = on_turn k.on };
      })

  -- nought says that neither sees the other
  pub nought_unseen : Code d i j v → v ≡ 0 → ¬ CentreSees d i j
  nought_unseen (inl c) e s = let two = c.two.1 s in omega arith
  nought_unseen (inr g) e s = let is = g.is in omega arith

  -- a settled code is the cell
  pub code_settled : Code d i j v → v < 4 → Cell v (Sees d i j) (CentreSees d i j)
  code_settled (inl c) h = c
  code_settled (inr g) h = let is = g.is in absurd (omega arith)

  pub code_third : Code d i j v → 4 ≤ v → Grazed d i j v
  code_third (inl c) h = let small = c.small in absurd (omega arith)
  code_third (inr g) h = g

-- ---- on a sound drawing, where 01's sight brings a centre's
module _ {d : List ℤ} (sound : Sound d) {i j : ℕ} (hi : i < corners d) (hj : j < corners d) where
  pub code_seen : {v : ℕ} → Sees d i j → v ≡ 3 → Code d i j v
  code_seen s e = inl (holds_both e s (strict_centre d sound i j hi hj s))

  pub code_unseen : {v : ℕ} → ¬ CentreSees d i j → v ≡ 0 → Code d i j v
  code_unseen n e = inl (holds_none e (λ s. n (strict_centre d sound i j hi hj s)) n)

  -- a third corner on the segment: by what its parts tell
  module _ {k : ℕ} (g : GrazedBy d i j k) where
    pub parts_tell : {first second : Bool} → Tells first (CentreSees d i k) → Tells second (CentreSees d k j) →
        Tells (first && second) (CentreSees d i j)
    parts_tell f s = let e = third_parts d sound.simple i j k hi hj g in same_as (e.1, e.0) (and_tells f s)

    pub code_past : {v : ℕ} → CentreSees d i j → v ≡ 2 → Code d i j v
    code_past s e = inl (holds_second e (third_unseen d sound.simple i j k hi hj g) s)
