-- A side across the segment from i to j bars strict sight, and so does a third corner on it. (A side across bars a
-- centre's sight as well, `sees_clear` of `CentreTest`; a third corner does not.)
use Rattle.std.specs.Prelude.{◌≡◌, refl, List, ℕ, ◌<◌, ℤ, pos}
use Rattle.std.proofs.Common.{sym, ◌∙◌, ap, inl, inr}
use Rattle.whole.specs.Order.{below}
use Rattle.outline.specs.Drawing.{turn_of, Simple, corner, corners, after, EndsAt, Beside, Sees}
use Rattle.outline.specs.Segments.{Apart, apart_off, turn_start, turn_end}
use Rattle.outline.specs.Round.{next_below}
use Rattle.outline.specs.Seeing.{clear_sight}
use Rattle.outline.specs.Unbroken.{none_between}
use Rattle.outline.specs.Placed.{On, on_segment}
use Rattle.outline.specs.Crossing.{Opposite}
use Rattle.outline.specs.Way.{CrossedBy, GrazedBy}

pub apart_of : {s t : ℤ} → Opposite s t → Apart s t
apart_of (inl h) = inl (h.0, below h.1)
apart_of (inr h) = inr (below h.0, h.1)

module _ (d : List ℤ) (simple : Simple d) where
  -- a corner lies on no side but the two that end there: the ends of a side see each other
  pub off_side : (i k : ℕ) → i < corners d → k < corners d → ¬ EndsAt d k i →
      ¬ On (corner d i) (corner d k) (corner d (after d k))
  off_side i k hi hk no_end o =
      none_between d simple k (after d k) i hk (next_below (corners d) k hk) hi
      (λ e. simple.two_ends k hk (ap (corner d) e))
      (record { sees = inl (inr (inl refl)) }) (λ e. no_end (inl (sym e))) (λ e. no_end (inr (sym e)))
      (on_segment (corner d i) (corner d k) (corner d (after d k)) o)

  module _ (i j : ℕ) (hi : i < corners d) (hj : j < corners d) (apart : ¬ Beside d i j) where
    -- the ends of a side across do not lie on the segment's line, so it ends at neither corner
    pub crossed_unseen : (k : ℕ) → k < corners d → CrossedBy d i j k → ¬ Sees d i j
    crossed_unseen k hk x s =
        (clear_sight apart s).others k hk (elsewhere i (turn_start (corner d i) (corner d j)))
        (elsewhere j (turn_end (corner d i) (corner d j))) x.meets
      where
        from_line : ℕ → ℤ
        from_line m = turn_of (corner d i) (corner d j) (corner d m)

        elsewhere : (m : ℕ) → turn_of (corner d i) (corner d j) (corner d m) ≡ pos 0 → ¬ EndsAt d k m
        elsewhere m on (inl e) = apart_off (apart_of x.ends) (inl (ap from_line e ∙ on))
        elsewhere m on (inr e) = apart_off (apart_of x.ends) (inr (ap from_line e ∙ on))

    pub grazed_unseen : (k : ℕ) → GrazedBy d i j k → ¬ Sees d i j
    grazed_unseen k g s =
        none_between d simple i j k hi hj g.below (λ e. apart (inl e)) s g.not_i g.not_j
        (on_segment (corner d k) (corner d i) (corner d j) g.on)
