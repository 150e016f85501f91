-- 01's sentence on a point in or on a drawing, tried at the square S: the side from (4,0) to (4,4) and points at the
-- height of its ends, and on it.
--
--      . . . . . . . (4,4)      at height 4 the side is not counted, at height 0 it is: of two sides that meet at a
--                      |        corner and go up and down from it, one counts
--              . . . . |        beside the side, at half its height, it passes to the right; on it, it does not
--                      |
--      . . . . . . . (4,0)
use Rattle.std.specs.Prelude.{refl, [], ◌∷◌, ℤ, pos, negsuc, ◌*ℤ◌, ◌<ℤ◌}
use Rattle.std.proofs.Common.{subst, inl, inr}
use Rattle.std.specs.Int.Signed.{lt_z_yes, <ℤ_irrefl}
use Rattle.whole.specs.Ring.{v, con, ◌:*◌, ring}
use Rattle.whole.specs.Order.{nonneg_pos, positive_pos, sub_le}
use Rattle.outline.specs.Drawing.{Point}
use Rattle.outline.specs.InOrOn.{Spot, spot, OneEndHigher, PassesRight}
use Rattle.outline.specs.Spell.{At}

abbrev at : ℤ → ℤ → Spot
at a b = spot (record { x = a; y = b })

abbrev low : Point
low = record { x = pos 4; y = pos 0 }

abbrev high : Point
high = record { x = pos 4; y = pos 4 }

-- ---- one end higher, the other not
not_at_top : ¬ OneEndHigher (at (negsuc 0) (pos 4)) low high
not_at_top (inl h) = h.0.lt
not_at_top (inr h) = h.1.lt

at_bottom : OneEndHigher (at (negsuc 0) (pos 0)) low high
at_bottom = inr ((λ h. h.lt), lt_z_yes tt)

-- ---- strictly to the right
beside_it : PassesRight (at (pos 3) (pos 2)) low high
beside_it =
    record {
      p = pos 1;
      q = pos 2;
      q_above = positive_pos 1;
      p_from = nonneg_pos 1;
      p_to = sub_le (nonneg_pos 1);
      height = refl;
      larger = lt_z_yes tt;
    }

not_on_it : ¬ PassesRight (at (pos 4) (pos 2)) low high
not_on_it t =
    <ℤ_irrefl (subst (λ x. (t.q *ℤ pos 4) <ℤ x)
    (ring (t.p ∷ t.q ∷ []) (con (pos 1) :* At (v 1) (con (pos 4)) (v 0) (con (pos 4))) (v 1 :* con (pos 4)) refl)
    t.larger)
