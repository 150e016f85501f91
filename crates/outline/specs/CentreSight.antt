-- A centre's sight on any drawing, sound or not: a corner sees itself and its two neighbours, and sight goes both
-- ways.
use Rattle.std.specs.Prelude.{◌≡◌, refl, List, [], ◌∷◌, ℕ, ◌<◌, ℤ, pos, ◌+ℤ◌, ◌-ℤ◌, ◌*ℤ◌}
use Rattle.std.proofs.Common.{◌∙◌, subst, inl, inr}
use Rattle.whole.specs.Ring.{v, ◌:*◌, ring}
use Rattle.whole.specs.Order.{nonneg_pos, positive_nonneg}
use Rattle.outline.specs.Drawing.{corner, corners, after, Beside}
use Rattle.outline.specs.InOrOn.{CentreSees}
use Rattle.outline.specs.Spell.{O, At}
use Rattle.outline.specs.OnSegment.{on_turned}

module _ {d : List ℤ} where
  -- the segment turned round has the same points
  pub centre_mutual : {i j : ℕ} → CentreSees d i j → CentreSees d j i
  centre_mutual {i} {j} s =
      record { every_point = λ z o. s.every_point z (on_turned {z = z} {a = corner d j} {b = corner d i} o) }

  -- every point of a side is on a side
  pub centre_side : (k : ℕ) → k < corners d → CentreSees d k (after d k)
  centre_side k h = record { every_point = λ z o. inl (k, h, o) }

  -- the one point of the segment from a corner to itself is on the side that begins there
  pub centre_self : (i : ℕ) → i < corners d → CentreSees d i i
  centre_self i h =
      record {
        every_point = λ z o. inl (
          i,
          h,
          record {
            p = pos 0;
            q = o.q;
            q_above = o.q_above;
            p_from = nonneg_pos 0;
            p_to = positive_nonneg o.q_above;
            on_x = axis z.r (corner d i).x (corner d (after d i)).x o.p o.q ∙ o.on_x;
            on_y = axis z.r (corner d i).y (corner d (after d i)).y o.p o.q ∙ o.on_y;
          },
        );
      }
    where
      axis : (r a b p q : ℤ) → r *ℤ (q *ℤ a +ℤ pos 0 *ℤ (b -ℤ a)) ≡ r *ℤ (q *ℤ a +ℤ p *ℤ (a -ℤ a))
      axis r a b p q =
          ring (r ∷ a ∷ b ∷ p ∷ q ∷ []) (v 0 :* At (v 4) (v 1) O (v 2)) (v 0 :* At (v 4) (v 1) (v 3) (v 1)) refl

  -- so a corner sees itself and its neighbours, as in 01's sight
  pub centre_beside : (i j : ℕ) → i < corners d → j < corners d → Beside d i j → CentreSees d i j
  centre_beside i j hi hj (inl e) = subst (λ k. CentreSees d i k) e (centre_self i hi)
  centre_beside i j hi hj (inr (inl e)) = subst (λ k. CentreSees d i k) e (centre_side i hi)
  centre_beside i j hi hj (inr (inr e)) = centre_mutual (subst (λ k. CentreSees d j k) e (centre_side j hj))
