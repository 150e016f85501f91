-- Where no third corner is on the segment from corner i to corner j of a simple drawing, the finite test is short: no
-- side crosses, and the middle of the segment is in or on.
use Rattle.std.specs.Prelude.{◌≡◌, refl, ◌⊎◌, List, [], ◌∷◌, ℕ, ◌<◌, ℤ, pos, ◌+ℤ◌, ◌-ℤ◌, ◌*ℤ◌}
use Rattle.std.proofs.Common.{subst, inl, inr}
use Rattle.std.proofs.Math.IntN.{+ℤ_comm}
use Rattle.whole.specs.Ring.{v, ◌:+◌, ◌:*◌, ring}
use Rattle.whole.specs.Order.{nonneg_pos, positive_pos, sub_le}
use Rattle.outline.specs.Drawing.{Simple, corner, corners, after}
use Rattle.outline.specs.InOrOn.{InOrOn, CentreSees}
use Rattle.outline.specs.Spell.{O, I, At, Two}
use Rattle.outline.specs.Placed.{On}
use Rattle.outline.specs.Crossing.{Crosses}
use Rattle.outline.specs.CornersApart.{corners_apart}
use Rattle.outline.specs.CentreTest.{half}
use Rattle.outline.proofs.CentreTest.{test_enough, test_needed}

module _ (d : List ℤ) (simple : Simple d) (i j : ℕ) (hi : i < corners d) (hj : j < corners d) (ne : ¬ (i ≡ j)) where
  -- half way from a corner to itself, on the side that begins there
  at_corner : (k : ℕ) → k < corners d → InOrOn d (half (corner d k) (corner d k))
  at_corner k h = inl (
    k,
    h,
    record {
      p = pos 0;
      q = pos 1;
      q_above = positive_pos 0;
      p_from = nonneg_pos 0;
      p_to = nonneg_pos 1;
      on_x = axis (corner d k).x (corner d (after d k)).x;
      on_y = axis (corner d k).y (corner d (after d k)).y;
    },
  )
    where
      axis : (a b : ℤ) → pos 2 *ℤ (pos 1 *ℤ a +ℤ pos 0 *ℤ (b -ℤ a)) ≡ pos 1 *ℤ (a +ℤ a)
      axis a b = ring (a ∷ b ∷ []) (Two :* At I (v 0) O (v 1)) (I :* (v 0 :+ v 0)) refl

  -- ---- the middle is enough
  pub middle_enough : ((k : ℕ) → k < corners d → On (corner d k) (corner d i) (corner d j) → (k ≡ i) ⊎ (k ≡ j)) →
      ((k : ℕ) → k < corners d → ¬ Crosses (corner d i) (corner d j) (corner d k) (corner d (after d k))) →
      InOrOn d (half (corner d i) (corner d j)) → CentreSees d i j
  middle_enough free clear m =
      test_enough d i j hi hj (corners_apart d simple i j hi hj ne) (record {
        clear = clear;
        halves = λ k l hk hl ok ol. go k l (free k hk ok) (free l hl ol);
      })
    where
      back : InOrOn d (half (corner d j) (corner d i))
      back =
          subst (λ z. InOrOn d z) (λ e. record {
            x = +ℤ_comm (corner d i).x (corner d j).x e;
            y = +ℤ_comm (corner d i).y (corner d j).y e;
            r = pos 2;
            r_above = positive_pos 1;
          }) m

      go : (k l : ℕ) → (k ≡ i) ⊎ (k ≡ j) → (l ≡ i) ⊎ (l ≡ j) → InOrOn d (half (corner d k) (corner d l))
      go k l (inl e) (inl f) = rw (e, f) (at_corner i hi)
      go k l (inl e) (inr f) = rw (e, f) m
      go k l (inr e) (inl f) = rw (e, f) back
      go k l (inr e) (inr f) = rw (e, f) (at_corner j hj)

  -- ---- and it is needed, as is that no side crosses
  module _ (s : CentreSees d i j) where
    pub sees_clear : (k : ℕ) → k < corners d → ¬ Crosses (corner d i) (corner d j) (corner d k) (corner d (after d k))
    sees_clear = (test_needed d i j hi hj simple ne s).clear

    pub sees_middle : InOrOn d (half (corner d i) (corner d j))
    sees_middle =
        s.every_point (half (corner d i) (corner d j)) (record {
          p = pos 1;
          q = pos 2;
          q_above = positive_pos 1;
          p_from = nonneg_pos 1;
          p_to = sub_le (nonneg_pos 1);
          on_x = axis (corner d i).x (corner d j).x;
          on_y = axis (corner d i).y (corner d j).y;
        })
      where
        axis : (a b : ℤ) → pos 2 *ℤ (pos 2 *ℤ a +ℤ pos 1 *ℤ (b -ℤ a)) ≡ pos 2 *ℤ (a +ℤ b)
        axis a b = ring (a ∷ b ∷ []) (Two :* At Two (v 0) I (v 1)) (Two :* (v 0 :+ v 1)) refl
