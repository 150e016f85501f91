-- `drawing::faced::angles` meets its contract: with j corners left the masks tell of the corners from j on.
use mathlib.Core.Path.{◌≡◌}
use Prim.Native.Nat.{◌-◌}
use Rattle.whole.specs.Masks.{Made}
use Rattle.drawing.specs.Known.{need_of}
use Rattle.drawing.proofs.faced.angles.Given as goal

abbrev pub invariant-loop-j : goal.invariant-loop-j
invariant-loop-j l =
    Made l.n (l.n - l.j) l.two (λ j. need_of l.known j ≡ 2) × Made l.n (l.n - l.j) l.one (λ j. need_of l.known j ≡ 1)
