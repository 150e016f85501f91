-- `drawing::corners::corner` meets its contract.
use mathlib.Core.Path.{◌∙◌}
use Prim.Native.Nat.{◌+◌, ◌*◌}
use native.Mathlib.Omega.{arith}
use mir.Syntax.{w64}
use Rattle.whole.specs.Bounds.{loc, bound}
use Rattle.drawing.proofs.Machine.{Coordinate, coordinate}
use Rattle.drawing.proofs.corners.corner.Goals as goal

pub returns : goal.returns
returns c =
    let at_x : Coordinate c.args.xy.now (2 * c.args.i) =
    coordinate c.args.xy.now (2 * c.args.i) c.requires.0.in_range (omega arith) c.from-arg-1.given in
    let at_y : Coordinate c.args.xy.now (2 * c.args.i + 1) =
    coordinate c.args.xy.now (2 * c.args.i + 1) c.requires.0.in_range (omega arith) c.from-arg-2-1.given in
    let x = loc w64 tt (record { is = c.from.ensures ∙ at_x.is; below = at_x.below }) in
    let y = loc w64 tt (record { is = c.from-2.ensures ∙ at_y.is; below = at_y.below }) in
    record { is = λ i. record { x = x.is i; y = y.is i }; close = record { close_x = bound x; close_y = bound y } }
