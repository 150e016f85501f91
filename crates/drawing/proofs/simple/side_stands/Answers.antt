-- `drawing::simple::side_stands` meets its contract.
use mathlib.Core.Path.{◌≡◌, sym, ap, ◌∙◌}
use mathlib.Core.Bool.{Bool}
use Rattle.std.proofs.lemmas.Bool.{false≢true}
use Rattle.outline.specs.Drawing.{Point, corner, after, SharedOnlyAt}
use Rattle.outline.specs.Segments.{only_first}
use Rattle.outline.specs.Tells.{Tells, if_yes, if_no, never, as_well}
use Rattle.drawing.specs.Parts.{point}
use Rattle.drawing.proofs.Machine.{differ_tells}
use Rattle.drawing.proofs.simple.side_stands.Goals as goal
use Rattle.drawing.proofs.simple.side_stands.Goals.{then-ne, else-ne, After-ne}

b_is : (c : After-ne) → let s = c.args in point c.corner-b.result ≡ corner s.xy.now (after s.xy.now s.i)
b_is c = c.corner-b.ensures.is ∙ ap (corner c.args.xy.now) c.next-j.ensures.is

c_is : (c : After-ne) → let d = c.args.xy.now in point c.corner-c.result ≡ corner d (after d (after d c.args.i))
c_is c =
    let d = c.args.xy.now in
    c.corner-c.ensures.is ∙ ap (corner d) (c.next-k.ensures.is ∙ ap (after d) c.next-j.ensures.is)

-- side i has two ends
two_ends : (c : After-ne) → let d = c.args.xy.now in let i = c.args.i in
    Tells c.ne.result (¬ (corner d i ≡ corner d (after d i)))
two_ends c =
    rw c.ne.ensures (as_well (differ_tells c.corner-a.result c.corner-b.result)
    (λ n e. n (c.corner-a.ensures.is ∙ e ∙ sym (b_is c))) (λ n e. n (sym c.corner-a.ensures.is ∙ e ∙ b_is c)))

-- and shares only its end with the side after it: ba and bc, as points of the list
abbrev Only : Point → Point → Point → Type 0
Only b a c = SharedOnlyAt b b a b c

neighbour : (c : After-ne) {v : Bool} →
    Tells v (Only (point c.corner-b.result) (point c.corner-a.result) (point c.corner-c.result)) →
    let d = c.args.xy.now in let i = c.args.i in
    Tells v (Only (corner d (after d i)) (corner d i) (corner d (after d (after d i))))
neighbour c t = rw (c.corner-a.ensures.is, b_is c, c_is c) at t

pub returns-then-only_end : goal.returns-then-only_end
returns-then-only_end c =
    let a = (goal.at.returns-then-only_end c).After-ne in
    as_well c.apart.ensures
    (λ o. record {
      two_ends = elim c.if-ne.branch [
        | then-ne w ↦ if_yes (two_ends a) w.if-ne.true
        | else-ne w ↦ if_yes (two_ends a) (sym w.value-is ∙ c.if-only_end.true)
      ];
      neighbour = elim c.if-ne.branch [
        | then-ne w ↦
            let only = if_yes (neighbour a w.only_end.ensures) (sym w.value-is ∙ c.if-only_end.true) in only_first only
        | else-ne w ↦ absurd (false≢true (sym w.if-ne.false ∙ sym w.value-is ∙ c.if-only_end.true))
      ];
      others = o;
    })
    (λ s. s.others)

pub returns-else-only_end : goal.returns-else-only_end
returns-else-only_end c =
    let a = (goal.at.returns-else-only_end c).After-ne in
    rw c.if-only_end.false (never (λ s. elim c.if-ne.branch [
      | then-ne w ↦
          let more = if_no (neighbour a w.only_end.ensures) (sym w.value-is ∙ c.if-only_end.false) in
          more (only_first s.neighbour)
      | else-ne w ↦ if_no (two_ends a) w.if-ne.false s.two_ends
    ]))
