-- `marks::carry` meets its contract: the mark is out of range, the pair is refused, the mark is carried.
use Rattle.std.proofs.Common.{refl, subst, take}
use Rattle.outline.specs.Drawing.{Point}
use Rattle.marks.specs.Parts.{Finds}
use Rattle.marks.proofs.Ways.{sound_of, told_read, carried}
use Rattle.marks.proofs.carry.Goals as goal

pub find-requires : goal.find-requires
find-requires c =
    let a = c.in_ok-told.ensures in
    told_read (sound_of _ a.numbered) (a.given refl)

pub returns : goal.returns
returns c =
    let told = c.in_ok-told.told in
    let s = c.args in
    carried (record { pieces = told.pieces; bytes = told.bytes; landing = c.find.result }) c.answer.new.room
    c.in-Some.ensures.1 c.in_ok-told.ensures
    (subst (λ (p : Point). Finds s.first.now s.second.now p (take told.bytes c.answer.new.room) c.find.result)
    c.in-Some.ensures.0 c.find.ensures)
