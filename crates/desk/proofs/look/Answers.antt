-- `desk::look` meets its contract: where no line before the last applies, the cells are the two drawings' sight, and
-- what comes back by them is the answer.
use mathlib.Core.Path.{ap}
use native.Mathlib.Omega.{arith}
use lib.ListN.{length}
use Rattle.limits.specs.Limits.{Roomy}
use Rattle.outline.specs.Drawing.{corners}
use Rattle.pair.specs.Pair.{result_number}
use Rattle.desk.proofs.Laws.{looked, sound, first_seen, second_seen}
use Rattle.desk.proofs.look.Goals as goal

pub returns : goal.returns
returns c =
    let roomy : let s = c.args in
    Roomy (corners s.first.now) (length s.room.now) =
    omega (arith, c.if-room-first.false) in
    let checks = c.sight-sound.ensures in
    let zero = ap result_number c.in_ok-sound.was in
    let seen1 = first_seen checks.checks zero (omega arith) checks.first_told in
    let seen2 = second_seen checks.checks zero (omega arith) checks.second_told in
    looked (sound checks.checks zero) _ _ _ _ seen1 seen2 _ _ roomy
    (omega (arith, seen1.size)) (omega (arith, seen2.size))
    c.cut.ensures
