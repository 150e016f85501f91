-- `drawing::beginnings::along_sides` meets its contract: the sides whose marks are passed are told.
use mathlib.Core.Path.{◌≡◌, refl, sym, subst}
use Prim.Native.Nat.{◌<◌, ◌≤◌}
use Rattle.std.proofs.Common.{rules, arith}
use lib.ListN.{length}
use Rattle.limits.specs.Limits.{all_cells}
use Rattle.whole.specs.Masks.{scan_start}
use Rattle.outline.specs.Drawing.{corners}
use Rattle.drawing.specs.Known.{Along}
use Rattle.drawing.specs.Table.{Grows}
use Rattle.drawing.proofs.Growing.{grows_on}
use Rattle.drawing.proofs.Begun.{RowBegunTo, row_begin, row_begun, side_begun}
use Rattle.drawing.proofs.Walking.{next_marked, next_passed}
use Rattle.drawing.proofs.beginnings.along_sides.Goals as goal
use Rattle.drawing.proofs.beginnings.along_sides.Goals.{In-Some}

-- corner i is along the side of the next mark
here : (c : In-Some) → let s = c.args in (c.in-Some.k < corners s.ring.xy.now) × Along s.ring.xy.now s.i c.in-Some.k
here c = c.requires.marks.yes _ (next_marked c.loop-k.invariant.scan c.in-Some.ensures.steps)

pub loop-k-init : goal.loop-k-init
loop-k-init c =
    let e : c.into_iter-k-iterator.result.0 ≡ c.args.along = search rules in
    record {
      can_next = tt;
      is_finite = tt;
      scan = rw e (scan_start c.ranges.along.fits);
      grown = rw e (row_begin c.requires.marks);
    }

pub along_side-requires-clause-along : goal.along_side-requires-clause-along
along_side-requires-clause-along c = here (goal.at.along_side-requires-clause-along c).In-Some

pub loop-k-preserved : goal.loop-k-preserved
loop-k-preserved c =
    let side = here (goal.at.loop-k-preserved c).In-Some in
    let loop = c.loop-k.invariant in
    let n = c.in-Some.ensures.steps in
    let room : all_cells ≤ length c.loop-k.cells = omega (arith, loop.grown.size) in
    let d = c.args.ring.xy.now in
    let begun = RowBegunTo d c.args.i in
    let told = side_begun c.args.ring.sound c.requires.corner _ _ side.0 side.1 loop.scan.fits n.0 n.1 _ _ room
    c.along_side.ensures in
    record {
      can_next = tt;
      is_finite = tt;
      scan = next_passed loop.scan n refl;
      grown = grows_on loop.grown
          (subst (λ x. Grows d (begun c.loop-k.k-iterator.0) (begun x) c.loop-k.cells c.along_side.new.cells) (sym n.2)
          told);
    }

pub returns : goal.returns
returns c = grows_on c.loop-k.invariant.grown (row_begun c.in-None.ensures.steps.0)
