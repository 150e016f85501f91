-- Left of the sides of a sound drawing one is in it: the parity left of them is one value, and were it even, the
-- doubled area would not be above zero.
use Rattle.std.specs.Prelude.{◌≡◌, refl, Bool, true, false, List, ℕ, zero, suc, ◌≤◌, ℤ, pos, ◌+ℤ◌, ◌-ℤ◌, ◌*ℤ◌, ◌≤ℤ◌}
use Rattle.std.proofs.Common.{◌∙◌, ap, ap₂, subst, arith, le_refl}
use Rattle.std.specs.Int.Signed.{clash_ℤ}
use Rattle.outline.specs.Drawing.{Sound, corner, corners, after, area_to}
use Rattle.outline.specs.Reading.{round, round_inner, round_closed}
use Rattle.outline.specs.CornersApart.{simple_read}
use Rattle.outline.specs.AtCorner.{left_of, all_left}
use Rattle.outline.specs.AreaByRows.{area, area_low}

-- 01's doubled area is that of the closed outline
same_area : (d : List ℤ) (t : ℕ) → t ≤ corners d → area (round d) t ≡ area_to d t
same_area d zero h = refl
same_area d (suc t) h =
    ap₂ ◌+ℤ◌ (same_area d t (omega arith))
    (ap (λ a. a.x *ℤ (corner d (after d t)).y -ℤ (corner d (after d t)).x *ℤ a.y) (round_inner d t h))

pub left_in : (d : List ℤ) → Sound d → left_of d 0 ≡ true
left_in d sound = go (left_of d 0) refl
  where
    go : (b : Bool) → left_of d 0 ≡ b → b ≡ true
    go true e = refl
    go false e =
        absurd (clash_ℤ sound.anticlockwise
        (subst (λ w. w ≤ℤ pos 0) (same_area d (corners d) (le_refl (corners d)))
        (area_low (round d) (corners d) (round_closed d) (simple_read d sound.simple)
        (λ k h. all_left d sound.simple k h ∙ e))))
