-- `drawing::simple::doubled_area` meets its contract: the sum is that of the sides passed, and no larger than they
-- allow.
use mathlib.Core.Path.{◌≡◌, refl, ap, ◌∙◌}
use mathlib.Core.List.{List}
use Prim.Native.Nat.{ℕ, ◌+◌, ◌*◌, ◌^◌, ◌≤◌, ◌<◌}
use native.Mathlib.Numerals.{add-one}
use native.Mathlib.Omega.{arith}
use lib.IntN.{ℤ, ◌+ℤ◌, ◌-ℤ◌, ◌*ℤ◌}
use lib.Signed.{mag}
use mir.Syntax.{w64}
use mir.Val.{to_z, SFits}
use mir.Facts.{to_z-of_z}
use Rattle.whole.specs.Bounds.{Val, fit, plus}
use Rattle.limits.specs.Limits.{most_corners}
use Rattle.outline.specs.Drawing.{Point, corner, corners, after, side_area, area_to}
use Rattle.drawing.specs.Parts.{most_side_area, SideArea}
use Rattle.drawing.proofs.Machine.{back, held}
use Rattle.drawing.proofs.simple.doubled_area.Goals as goal

-- the machine's s is the sum of the first k sides
abbrev Sum : List ℤ → ℕ → ℤ → Type 0
Sum d k s = Val s (area_to d k) (k * most_side_area)

sum_fits : {s x : ℤ} (k : ℕ) → k ≤ most_corners → Val s x (k * most_side_area) → SFits w64 s
sum_fits {s} {x} k h v = fit {x = x} {B = 128000000000000} tt (record { is = v.is; below = omega (arith, v.below) })

sum_more : (d : List ℤ) (k : ℕ) {s t : ℤ} → Sum d k s → Val t (side_area d k) most_side_area → Sum d (k + 1) (s +ℤ t)
sum_more d k v w = rw (add-one k) (record { is = (plus v w).is; below = omega (arith, (plus v w).below) })

part_is : {a b : Point} {r : ℤ} → mag r < 2 ^ 63 → SideArea a b r →
    Val (back r) (a.x *ℤ b.y -ℤ b.x *ℤ a.y) most_side_area
part_is ok h = record { is = held ok h.is; below = rw h.is at h.small }

pub loop-k-init : goal.loop-k-init
loop-k-init c = (omega arith, record { is = refl; below = omega arith })

pub loop-k-preserved : goal.loop-k-preserved
loop-k-preserved c =
    let more : Sum c.args.xy.now (c.loop-k.k + 1) (to_z w64 c.loop-k.sum-bits +ℤ back c.side_area-sum.result) =
    let d = c.args.xy.now in
    let k = c.loop-k.k in
    let b_is = c.corner-b.ensures.is ∙ ap (corner d) c.next-m.ensures.is in
    let part : SideArea (corner d k) (corner d (after d k)) c.side_area-sum.result =
    rw (c.corner-a.ensures.is, b_is) at c.side_area-sum.ensures in
    sum_more d k c.loop-k.invariant.1 (part_is c.side_area-sum.type_inv part) in
    let sum = to_z-of_z (sum_fits (c.loop-k.k + 1) (omega arith) more) in
    (omega arith, record { is = sum ∙ more.is; below = more.below })

pub returns : goal.returns
returns c =
    let d = c.args.xy.now in
    let all : c.loop-k.k ≡ corners d = omega arith in
    c.loop-k.invariant.1.is ∙ ap (area_to d) all
