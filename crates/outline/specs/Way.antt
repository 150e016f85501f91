-- What a look along the segment from corner i to corner j finds: side k goes across it, or a third corner k lies on
-- it, or it is free of both.
--
--          /                k
--    i ---/--- j      i ---/ \--- j
--        / side k         /   \
use Rattle.std.specs.Prelude.{◌≡◌, ◌⊎◌, List, ℕ, ◌<◌, ℤ}
use Rattle.std.proofs.Common.{inl, inr}
use Rattle.std.proofs.Math.Decide.{ℕ_discrete}
use Rattle.outline.specs.Drawing.{corner, corners, after}
use Rattle.outline.specs.Placed.{On}
use Rattle.outline.specs.Crossing.{Crosses}

module _ (d : List ℤ) (i j : ℕ) where
  -- side k crosses the segment
  abbrev pub CrossedBy : ℕ → Type 0
  CrossedBy k = Crosses (corner d i) (corner d j) (corner d k) (corner d (after d k))

  -- corner k, a third one, lies on it
  pub record GrazedBy (k : ℕ) : Type 0 where
    pub below : k < corners d
    pub not_i : ¬ (k ≡ i)
    pub not_j : ¬ (k ≡ j)
    pub on : On (corner d k) (corner d i) (corner d j)

  -- neither side k nor corner k stands in the way
  pub record FreeOf (k : ℕ) : Type 0 where
    pub uncrossed : ¬ CrossedBy k
    pub no_third : On (corner d k) (corner d i) (corner d j) → (k ≡ i) ⊎ (k ≡ j)

  -- no side k across, and no third corner k
  pub free_of : (k : ℕ) → k < corners d → ¬ CrossedBy k → ¬ GrazedBy k → FreeOf k
  free_of k hk uncrossed ungrazed =
      record { uncrossed = uncrossed; no_third = λ o. only o (ℕ_discrete k i) (ℕ_discrete k j) }
    where
      only : On (corner d k) (corner d i) (corner d j) → Dec (k ≡ i) → Dec (k ≡ j) → (k ≡ i) ⊎ (k ≡ j)
      only o (yes e) f = inl e
      only o (no e) (yes f) = inr f
      only o (no e) (no f) = absurd (ungrazed (record { below = hk; not_i = e; not_j = f; on = o }))

  -- nothing does
  abbrev pub Free : Type 0
  Free = (k : ℕ) → k < corners d → FreeOf k
