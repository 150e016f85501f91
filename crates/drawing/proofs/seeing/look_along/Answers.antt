-- `drawing::seeing::look_along` meets its contract: no mark passed is a side that hides.
use mathlib.Core.Path.{◌≡◌, refl}
use Prim.Native.Nat.{◌<◌}
use Rattle.outline.specs.Drawing.{corner, corners}
use Rattle.drawing.specs.Known.{Open}
use Rattle.drawing.specs.Looking.{seen_clear}
use Rattle.drawing.specs.Grazing.{inside_apart, crossed_by}
use Rattle.drawing.specs.Codes.{code_seen, code_unseen}
use Rattle.drawing.proofs.Walking.{next_marked, next_passed, all_passed}
use Rattle.drawing.proofs.seeing.look_along.Goals as goal
use Rattle.drawing.proofs.seeing.look_along.Goals.{In-Some}

-- the side of the next mark is open
here : (c : In-Some) → let s = c.args in (c.in-Some.k < corners s.ring.xy.now) × Open s.ring.xy.now s.i s.j c.in-Some.k
here c = c.requires.angle.2.is_open _ (next_marked c.loop-k.invariant.scan c.in-Some.ensures.steps)

-- and the two corners differ
differ : (c : In-Some) → let s = c.args in ¬ (corner s.ring.xy.now s.i ≡ corner s.ring.xy.now s.j)
differ c = let s = c.args in inside_apart s.ring.xy.now s.i s.j c.requires.angle.0

pub meet_side-requires-clause-corners : goal.meet_side-requires-clause-corners
meet_side-requires-clause-corners c =
    let h = c.requires.corners in
    (h.0, h.1, (here (goal.at.meet_side-requires-clause-corners c).In-Some).0)

pub meet_side-requires-clause-open : goal.meet_side-requires-clause-open
meet_side-requires-clause-open c = (here (goal.at.meet_side-requires-clause-open c).In-Some).1

pub loop-k-preserved : goal.loop-k-preserved
loop-k-preserved c = record {
  can_next = tt;
  is_finite = tt;
  scan = next_passed c.loop-k.invariant.scan c.in-Some.ensures.steps c.in-Missed.ensures;
}

pub touched-requires-clause-touched : goal.touched-requires-clause-touched
touched-requires-clause-touched c =
    let some = (goal.at.touched-requires-clause-touched c).In-Some in
    let side = here some in
    (side.0, record { differ = differ some; is_open = side.1; touches = c.in-Touched.ensures })

pub returns-in-Crossed : goal.returns-in-Crossed
returns-in-Crossed c =
    let some = (goal.at.returns-in-Crossed c).In-Some in
    let h = c.requires.corners in
    let sound = c.args.ring.sound in
    code_unseen sound h.0 h.1
    (crossed_by _ sound.simple _ _ _ h.0 h.1 (here some).0 c.in-Crossed.ensures (differ some)) refl

pub returns : goal.returns
returns c =
    let h = c.requires in
    let sound = c.args.ring.sound in
    code_seen sound h.corners.0 h.corners.1
    (seen_clear c.args.ring.xy.now sound c.args.i c.args.j h.corners.0 h.corners.1 h.angle.0 h.angle.1
    (λ k l o x. all_passed c.loop-k.invariant.scan c.in-None.ensures.steps k (h.angle.2.all k l o x) x)) refl
