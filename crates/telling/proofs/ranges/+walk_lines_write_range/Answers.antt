-- `ranges::write_range` and `ranges::walk_lines`, which call each other: the lines of a piece one after another, and a
-- range as its piece and the ranges under the lines of that.
use mathlib.Core.Path.{sym, ap, ◌∙◌}
use Prim.Native.Nat.{ℕ}
use Rattle.std.specs.Slice.Iter.{iter_rest}
use mathlib.Core.List.{◌∷◌}
use native.Mathlib.Omega.{arith}
use lib.ListN.{length, length-append}
use Rattle.std.proofs.lemmas.Slice.Zip.{Zip-more, either_empty_from_Zip}
use Rattle.telling.proofs.Tellings.{pairs_wide, range_end, range_more}
use Rattle.telling.proofs.Writes.{wrote_none}
use Rattle.telling.proofs.Lines.{walked_next, walked_end, walked_width, walked_room}
use Rattle.telling.proofs.Lines.{split, split_corners, split_room, split_wrote}
use Rattle.telling.proofs.ranges.+walk_lines_write_range.Goals as goal

-- ---- the lines of a piece
pub walk_lines-write_range-past-requires : goal.walk_lines-write_range-past-requires
walk_lines-write_range-past-requires t c =
    let z = Zip-more c.loop-c.c-iterator c.next.new.self _ _ c.in-Some.is c.next.ensures.steps in
    let e = z.0 ∙ ap (λ (k : ℕ). k ∷ iter_rest c.next.new.self.a) (sym c.from.ensures) in
    let f = z.1 ∙ ap (λ (k : ℕ). k ∷ iter_rest c.next.new.self.b) (sym c.from-in-loop-c.ensures) in
    let v = c.loop-c.invariant in
    let w = walked_width v e f in (
      omega (arith, w),
      ((w.0, omega (arith, w.1, c.requires.corners.small)), walked_room v e f (omega arith)),
    )

pub walk_lines-loop-c-preserved : goal.walk_lines-loop-c-preserved
walk_lines-loop-c-preserved t c =
    let z = Zip-more c.loop-c.c-iterator c.next.new.self _ _ c.in-Some.is c.next.ensures.steps in
    let e = z.0 ∙ ap (λ (k : ℕ). k ∷ iter_rest c.next.new.self.a) (sym c.from.ensures) in
    let f = z.1 ∙ ap (λ (k : ℕ). k ∷ iter_rest c.next.new.self.b) (sym c.from-in-loop-c.ensures) in
    walked_next c.loop-c.invariant e f (omega arith) c.write_range-past.ensures

pub walk_lines-returns : goal.walk_lines-returns
walk_lines-returns t c =
    walked_end c.loop-c.invariant
    (either_empty_from_Zip c.loop-c.c-iterator c.next.new.self _ c.in-None.is c.next.ensures.steps)

-- ---- a range
pub write_range-returns-then-j-i : goal.write_range-returns-then-j-i
write_range-returns-then-j-i t c = wrote_none (range_end _ _ _ c.if-j-i.true)

pub write_range-piece-bytes-requires-clause-room : goal.write_range-piece-bytes-requires-clause-room
write_range-piece-bytes-requires-clause-room t c =
    let k = pairs_wide c.args.pairs.now in
    let two = simp length-append at (ap length (range_more k _ _ c.if-j-i.false)) in
    omega (arith, c.requires.room, two)

pub write_range-walk_lines-requires : goal.write_range-walk_lines-requires
write_range-walk_lines-requires t c =
    let p = c.split_at_mut-told.ensures in
    let s = split c.if-j-i.false c.requires.corners.1 c.piece-bytes.ensures p.value p.front_len in
    let k = split_corners s in
    (omega (arith, k.1, k.2), (k.0, split_room s c.requires.room))

pub write_range-returns : goal.write_range-returns
write_range-returns t c =
    let p = c.split_at_mut-told.ensures in
    let s = split c.if-j-i.false c.requires.corners.1 c.piece-bytes.ensures p.value p.front_len in
    split_wrote s c.walk_lines.ensures
