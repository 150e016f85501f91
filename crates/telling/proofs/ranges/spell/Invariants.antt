-- `ranges::spell`: the corners after c are left to be stored.
use Prim.Native.Nat.{◌-◌}
use Rattle.rules.specs.Cutting.{corners}
use Rattle.rules.specs.Cells.{marked}
use Rattle.rules.specs.Walk.{walk, Step}
use Rattle.telling.specs.Parts.{corners_after}
use Rattle.telling.proofs.Writes.{Left}
use Rattle.telling.proofs.ranges.spell.Given as goal

abbrev pub invariant-loop-c : goal.invariant-loop-c
invariant-loop-c l =
    Step l.i l.j l.c l.top
    × Left (corners_after l.pairs l.i l.j) (corners (walk (marked l.pairs) l.c l.top l.j)) l.initial.out l.out
    l.past

abbrev pub decreases-loop-c : goal.decreases-loop-c
decreases-loop-c l = l.j - l.c
