-- `drawing::seeing::to_look_at` meets its contract.
use mathlib.Core.Path.{◌≡◌, ap, ◌∙◌}
use Rattle.outline.specs.Drawing.{Point}
use Rattle.drawing.specs.Digits.{look_digits, look_digits_back, looks}
use Rattle.drawing.proofs.Machine.{the_x, the_y}
use Rattle.drawing.proofs.seeing.to_look_at.Goals as goal

-- the heights, and how far east
high : {p q : Point} → p ≡ q → p.y ≡ q.y
high e = ap (λ x. x.y) e

east : {p q : Point} → p ≡ q → p.x ≡ q.x
east e = ap (λ x. x.x) e

pub returns : goal.returns
returns c =
    let at = c.corner-p.ensures in
    let to = c.corner-q.ensures in
    let low = c.reach-low.ensures in
    let west = c.reach-west.ensures in
    let a = c.args.a in
    let b = c.args.b in
    let l = c.reach-low.result in
    let w = c.reach-west.result in
    let digits = look_digits a.left a.right a.along b.left b.right b.along l w in
    let back = look_digits_back a.left a.right a.along b.left b.right b.along l w in
    looks c.args.ring.xy.now c.requires.knows.0 c.requires.knows.1 c.args.ring.sound.shaped.few
    (rw ((the_y at.close).is ∙ high at.is, (the_y to.close).is ∙ high to.is) at low)
    (rw ((the_x at.close).is ∙ east at.is, (the_x to.close).is ∙ east to.is) at west)
    (λ m. search (digits m, back m))
