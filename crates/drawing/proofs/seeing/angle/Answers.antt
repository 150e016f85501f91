-- `drawing::seeing::angle` meets its contract.
use mathlib.Core.Path.{ap, ◌∙◌}
use Prim.Native.Nat.{◌+◌, ◌%◌, ◌/◌, ◌^◌}
use native.Mathlib.Omega.{arith}
use Rattle.outline.specs.Tells.{as_well, most_tells}
use Rattle.whole.specs.Bits.{bit, bit_shifted}
use Rattle.drawing.specs.Faced.{facing_of, facing_to}
use Rattle.drawing.proofs.seeing.angle.Goals as goal

pub returns : goal.returns
returns c =
    let d = c.args.ring.xy.now in
    let digits = bit_shifted c.args.left c.args.i in
    let other = bit_shifted c.args.left c.prev-h.result ∙ ap (bit c.args.left) c.prev-h.ensures.is in
    as_well (most_tells c.args.need (c.args.left / 2 ^ c.args.i % 2 + c.args.left / 2 ^ c.prev-h.result % 2))
    (λ h. facing_of d c.args.i c.args.j c.args.need c.args.left c.requires.corner.0 c.requires.corner.1
    c.requires.marks (omega (arith, h, digits, other)))
    (λ f. let g = facing_to d c.args.i c.args.j c.args.need c.args.left c.requires.corner.0 c.requires.corner.1
    c.requires.marks f in
    omega (arith, g, digits, other))
