-- `drawing::segment::beyond` meets its contract.
use mathlib.Core.Bool.{Bool, ◌&&◌}
use mathlib.Core.Path.{refl}
use lib.IntN.{ℤ}
use lib.Signed.{lt_z, ◌<ℤ◌}
use mir.Syntax.{w64}
use mir.Val.{SFits}
use mir.Facts.{to_z-of_z}
use Rattle.outline.specs.Tells.{Tells, and_tells}
use Rattle.drawing.proofs.Machine.{back, by_lt, or_first, or_second}
use Rattle.drawing.proofs.segment.beyond.Goals as goal

-- one comparison, as the machine makes it
abbrev less : ℤ → ℤ → Bool
less x y = lt_z (back x) (back y)

tells : {x y : ℤ} → SFits w64 x → SFits w64 y → Tells (less x y) (x <ℤ y)
tells e f = by_lt (to_z-of_z e) (to_z-of_z f) (λ h. h) (λ h. h)

-- both of one segment's ends are below both of the other's
both : {x y z w : ℤ} → SFits w64 x → SFits w64 y → SFits w64 z → SFits w64 w →
    Tells ((less x z && less x w) && (less y z && less y w)) (((x <ℤ z) × (x <ℤ w)) × ((y <ℤ z) × (y <ℤ w)))
both e f g h = and_tells (and_tells (tells e g) (tells e h)) (and_tells (tells f g) (tells f h))

pub returns-then-c-a : goal.returns-then-c-a
returns-then-c-a c = let f = c.ranges in or_first (both f.c f.d f.a f.b) refl c.if-c-a.true

pub returns-else-c-a : goal.returns-else-c-a
returns-else-c-a c =
    let f = c.ranges in
    or_second (both f.c f.d f.a f.b)
    (and_tells (and_tells (tells f.a f.c) (tells f.b f.c)) (and_tells (tells f.a f.d) (tells f.b f.d))) refl
    c.if-c-a.false
