-- `drawing::segment::share` meets its contract: segments far apart share no point; of others the turns tell.
use mathlib.Core.Path.{◌≡◌, sym, ◌∙◌}
use mathlib.Core.Bool.{Bool, not}
use denote.Enum.Bare.{sameb}
use lib.IntN.{ℤ}
use Rattle.outline.specs.Drawing.{Point, Shared}
use Rattle.outline.specs.FarApart.{far_apart}
use Rattle.outline.specs.Segments.{exchanged, OneSide, one_side}
use Rattle.outline.specs.Tells.{Tells, if_yes, if_no, surely, never, as_well, not_tells}
use Rattle.drawing.specs.Meeting.{Meets}
use Rattle.drawing.specs.contracts.segment.Met.{the_type}
use Rattle.drawing.specs.declared.segment.Met.{Met}
use Rattle.drawing.specs.declared.segment.Met.TheVariants as is
use Rattle.drawing.proofs.Machine.{back, held}
use Rattle.drawing.proofs.segment.share.Goals as goal
use Rattle.drawing.proofs.segment.share.Goals.{then-not-far_apart, else-not-far_apart}

-- segments that meet share a point
met : {a b c d : Point} (w : Met) → Meets a b c d w → Tells (not (sameb the_type w is.Missed)) (Shared a b c d)
met is.Missed n = never n
met is.Touched m = surely m.0
met is.Crossed m = surely m.0

-- the turns of c and d from ab, as they are held
aside : (s t : ℤ) {b : Bool} {x y : ℤ} → back s ≡ x → back t ≡ y →
    Tells b (OneSide (back s) (back t)) → Tells (not b) (¬ OneSide x y)
aside s t e f h = not_tells (rw (e, f) at h)

pub returns-then-not-one_side : goal.returns-then-not-one_side
returns-then-not-one_side c =
    rw c.ne.ensures (as_well (met c.meet.result c.meet.ensures) exchanged exchanged)

pub returns-else-not-one_side : goal.returns-else-not-one_side
returns-else-not-one_side c = rw c.if-not-one_side.false (never (λ m. elim c.if-not-far_apart.branch [
  | then-not-far_apart w ↦ let s = w.turn in let t = w.turn-then-not-far_apart in
      if_no (aside s.result t.result (held s.type_inv s.ensures) (held t.type_inv t.ensures) w.one_side.ensures)
      (sym w.value-is ∙ c.if-not-one_side.false) (λ o. one_side o m)
  | else-not-far_apart w ↦ far_apart (if_yes c.far_apart.ensures w.if-not-far_apart.false) m
]))

pub meet-requires-clause-reached : goal.meet-requires-clause-reached
meet-requires-clause-reached c = record {
  not_aside = elim c.if-not-far_apart.branch [
    | then-not-far_apart w ↦ let s = w.turn in let t = w.turn-then-not-far_apart in
        if_yes (aside s.result t.result (held s.type_inv s.ensures) (held t.type_inv t.ensures) w.one_side.ensures)
        (sym w.value-is ∙ c.if-not-one_side.true)
    | else-not-far_apart w ↦ absurd (if_yes (not_tells c.far_apart.ensures) (sym w.value-is ∙ c.if-not-one_side.true)
        (if_yes c.far_apart.ensures w.if-not-far_apart.false))
  ];
}
