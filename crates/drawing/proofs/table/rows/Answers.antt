-- `drawing::table::rows` meets its contract: the pairs of the corners before i, with every corner, are decided; and of
-- corner i those whose marks are passed.
use mathlib.Core.Path.{◌≡◌, refl, sym, ap, subst}
use Prim.Native.Nat.{◌+◌, ◌/◌, ◌^◌, ◌≤◌, ◌<◌}
use Rattle.std.proofs.Common.{rules, arith}
use lib.ListN.{length}
use Rattle.limits.specs.Limits.{all_cells}
use Rattle.whole.specs.Bits.{bit, shifted_below}
use Rattle.whole.specs.Masks.{scan_start}
use Rattle.outline.specs.Drawing.{corners, Angle}
use Rattle.drawing.specs.Faced.{faced_marks}
use Rattle.drawing.specs.Known.{FacedBy}
use Rattle.drawing.specs.Table.{Grows}
use Rattle.drawing.proofs.Growing.{grows_on}
use Rattle.drawing.proofs.Rows.{RowDone, row_start, row_next, row_decided, row_end, rows_first}
use Rattle.drawing.proofs.Walking.{next_marked, next_passed}
use Rattle.drawing.proofs.table.rows.Goals as goal
use Rattle.drawing.proofs.table.rows.Goals.{After-faced, In-Some}

pub loop-i-init : goal.loop-i-init
loop-i-init c = (omega arith, rows_first)

corner_i : (c : After-faced) → c.loop-i.i < corners c.args.ring.xy.now
corner_i c = rw c.count-n.ensures at c.loop-i-test.true

-- the corners that have corner i inside the angle
faces : (c : After-faced) → FacedBy c.args.ring.xy.now c.loop-i.i c.faced.result
faces c =
    let bends = c.angles-bends.ensures in
    let known = c.requires in
    let left = (known _ (corner_i c)).left_of in
    faced_marks c.args.ring.xy.now c.loop-i.i c.args.known (rw c.count-n.ensures at c.faced.ensures) known left
    (rw c.count-n.ensures at bends.two) (rw c.count-n.ensures at bends.one)

-- that of the next mark is one
here : (c : In-Some) → FacedBy c.args.ring.xy.now c.loop-i.i c.faced.result → let j = c.loop-i.i + c.in-Some.k in
    (j < corners c.args.ring.xy.now) × (j < 64) × Angle c.args.ring.xy.now j c.loop-i.i
here c f =
    let e : c.into_iter-k-iterator.result.0 ≡ c.faced.result / 2 ^ c.loop-i.i = search rules in
    let marked = next_marked c.loop-k.invariant.scan c.in-Some.ensures.steps in
    row_next c.args.ring.xy.now c.loop-i.i c.faced.result c.in-Some.k f
    (subst (λ x. bit x c.in-Some.k ≡ 1) e marked) c.args.ring.sound.shaped.few

pub loop-k-init : goal.loop-k-init
loop-k-init c =
    let at = (goal.at.loop-k-init c).After-faced in
    let i = c.loop-i.i in
    let e : c.into_iter-k-iterator.result.0 ≡ c.faced.result / 2 ^ i = search rules in
    let fits : c.faced.result < 2 ^ 64 = c.faced.type_inv in
    record {
      can_next = tt;
      is_finite = tt;
      scan = rw e (scan_start (omega (arith, shifted_below c.faced.result i, fits)));
      grown = rw e (row_start c.args.ring.sound (corner_i at) (faces at));
    }

pub bounds-known-j : goal.bounds-known-j
bounds-known-j c = let at = goal.at.bounds-known-j c in (here at.In-Some (faces at.After-faced)).1

pub decide-requires-clause-angle : goal.decide-requires-clause-angle
decide-requires-clause-angle c =
    let at = goal.at.decide-requires-clause-angle c in
    let next = here at.In-Some (faces at.After-faced) in (corner_i at.After-faced, next.0, next.2)

pub decide-requires-clause-knows : goal.decide-requires-clause-knows
decide-requires-clause-knows c =
    let at = goal.at.decide-requires-clause-knows c in
    let next = here at.In-Some (faces at.After-faced) in
    let known = c.requires in
    (known _ (corner_i at.After-faced), known _ next.0)

pub loop-k-preserved : goal.loop-k-preserved
loop-k-preserved c =
    let at = goal.at.loop-k-preserved c in
    let next = here at.In-Some (faces at.After-faced) in
    let loop = c.loop-k.invariant in
    let n = c.in-Some.ensures.steps in
    let room : all_cells ≤ length c.loop-k.cells =
    omega (arith, c.loop-i.invariant.1.size, loop.grown.size) in
    let d = c.args.ring.xy.now in
    let i = c.loop-i.i in
    let is = ap (λ k. i + k) n.1 in
    let sound = c.args.ring.sound in
    let told = row_decided sound (corner_i at.After-faced) next.0 room loop.scan.fits n.0 is c.decide.ensures in
    let done = RowDone d i in
    record {
      can_next = tt;
      is_finite = tt;
      scan = next_passed loop.scan n refl;
      grown = grows_on loop.grown
          (subst (λ x. Grows d (done c.loop-k.k-iterator.0) (done x) c.loop-k.cells c.decide.new.cells) (sym n.2)
          told);
    }

pub loop-i-preserved : goal.loop-i-preserved
loop-i-preserved c =
    let l = rw c.count-n.ensures at c.loop-i-test.true in
    let over = c.in-None.ensures.steps.0 in
    let row = grows_on c.loop-k.invariant.grown (row_end c.args.ring.sound l over) in
    (omega (arith, l), grows_on c.loop-i.invariant.1 row)

pub returns : goal.returns
returns c =
    let loop = c.loop-i in
    let all : loop.i ≡ corners c.args.ring.xy.now = omega (arith, loop.invariant.0, c.loop-i-test.false) in
    rw all at loop.invariant.1
