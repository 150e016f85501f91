-- `drawing::masks::learn` meets its contract: what the corners before i know is there.
use mathlib.Core.Path.{◌≡◌}
use Prim.Native.Nat.{◌≤◌}
use lib.ListN.{length}
use Rattle.limits.specs.Limits.{most_corners}
use Rattle.outline.specs.Drawing.{corners}
use Rattle.drawing.specs.Known.{AllKnown}
use Rattle.drawing.proofs.masks.learn.Given as goal

abbrev pub invariant-loop-i : goal.invariant-loop-i
invariant-loop-i l =
    let d = l.ring.xy.now in
    (l.i ≤ corners d) × AllKnown d l.i l.known × (length l.known ≡ most_corners)
