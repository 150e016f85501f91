-- How much one side ab changes the parity on the way from u to w. The strip is what lies right of the segment uw at
-- its heights; round a closed outline the ends in the strip go out in pairs, so what a side changes beyond its ends in
-- the strip is what counts:
--
--       w                    a side that does not meet uw changes nothing,
--        \  ::strip::        a side that runs through it changes the parity,
--     a---\------- b         a side on whose line u and w lie changes nothing.
--          u
use Rattle.std.specs.Prelude.{◌≡◌, refl, Bool, true, false, pos, ◌≤ℤ◌}
use Rattle.std.proofs.Common.{sym, ◌∙◌, ap, ap₂}
use Rattle.whole.specs.Ring.{neg, ring1}
use Rattle.whole.specs.Order.{Positive}
use Rattle.outline.specs.Drawing.{Point, Shared, turn_of}
use Rattle.outline.specs.Segments.{turned_first, Dot}
use Rattle.outline.specs.Spell.{A, B, C, O, I, env4, TurnE}
use Rattle.outline.specs.Odd.{◌⊕◌}
use Rattle.outline.specs.Passing.{higher, passes, crosses}
use Rattle.outline.specs.Signs.{is_above}
use Rattle.outline.specs.ParitySide.{inside, strip, side}
use Rattle.outline.specs.Xor.{⊕-no, ⊕-comm}
use Rattle.outline.specs.Through.{RunsThrough, through, crosses_turn}
use Rattle.outline.specs.TruthSums.{⊕-yes}
use Rattle.outline.specs.Directions.{all_in_line}

-- upwards from u to w, the side changes the parity by e
abbrev pub Change : Point → Point → Point → Point → Bool → Type 0
Change u w a b e = crosses u a b ⊕ crosses w a b ≡ (strip u w a ⊕ strip u w b) ⊕ e

pub record Changes (u w a b : Point) (e : Bool) : Type 0 where
  pub up : u.y ≤ℤ w.y → Change u w a b e
  pub down : w.y ≤ℤ u.y → Change w u a b e

-- ---- the way back, and the side turned round
pub changes_back : {u w a b : Point} {e : Bool} → Changes u w a b e → Changes w u a b e
changes_back h = record { up = h.down; down = h.up }

change_turned : (u w a b : Point) (e : Bool) → Change u w a b e → Change u w b a e
change_turned u w a b e h =
    ap₂ ◌⊕◌ (crosses_turn u b a) (crosses_turn w b a) ∙ h ∙ ap (λ z. z ⊕ e) (⊕-comm (strip u w a) (strip u w b))

pub changes_turned : (u w a b : Point) (e : Bool) → Changes u w a b e → Changes u w b a e
changes_turned u w a b e h = record {
  up = λ k. change_turned u w a b e (h.up k);
  down = λ k. change_turned w u a b e (h.down k);
}

-- ---- a side that does not meet uw
pub apart_changes : (u w a b : Point) → ¬ Shared u w a b → Changes u w a b false
apart_changes u w a b apart = record {
  up = λ h. side u w a b h apart ∙ sym (⊕-no (strip u w a ⊕ strip u w b));
  down = λ h. side w u a b h (λ s. apart (turned_first s)) ∙ sym (⊕-no (strip w u a ⊕ strip w u b));
}

-- ---- a side that runs through it
pub thru_changes : (u w a b : Point) → RunsThrough u w a b → Changes u w a b true
thru_changes u w a b t = record {
  up = λ h. through u w a b h t ∙ sym (⊕-yes (strip u w a ⊕ strip u w b));
  down = λ h. change_turned w u b a true
      (through w u b a h (record { t1 = t.t2; t2 = t.t1; t3 = t.t4; t4 = t.t3 })
      ∙ sym (⊕-yes (strip w u b ⊕ strip w u a)));
}

-- ---- a side on whose line u and w lie
no_passes : (s t : Bool) → passes s t false false ≡ false
no_passes true true = refl
no_passes true false = refl
no_passes false true = refl
no_passes false false = refl

no_inside : (s t : Bool) → inside s t false ≡ false
no_inside true true = refl
no_inside true false = refl
no_inside false true = refl
no_inside false false = refl

-- it does not pass to the right of a point on its line
pub no_crossing : (z a b : Point) → turn_of a b z ≡ pos 0 → crosses z a b ≡ false
no_crossing z a b e =
    ap₂ (passes (higher z a) (higher z b)) (ap is_above e)
    (ap is_above (ring1 (env4 a b z z) (TurnE B A C) O (neg I) (TurnE A B C) O e refl))
    ∙ no_passes (higher z a) (higher z b)

-- and the points of the line are not in the strip
no_strip : (u w a : Point) → turn_of w u a ≡ pos 0 → strip u w a ≡ false
no_strip u w a e = ap (λ t. inside (higher u a) (higher w a) (is_above t)) e ∙ no_inside (higher u a) (higher w a)

line_change : (u w a b : Point) → Positive (Dot a b b) → turn_of a b u ≡ pos 0 → turn_of a b w ≡ pos 0 →
    Change u w a b false
line_change u w a b long eu ew =
    ap₂ ◌⊕◌ (no_crossing u a b eu) (no_crossing w a b ew)
    ∙ sym (ap₂ (λ s t. (s ⊕ t) ⊕ false) (no_strip u w a ends.0) (no_strip u w b ends.1))
  where
    ends : (turn_of w u a ≡ pos 0) × (turn_of w u b ≡ pos 0)
    ends = all_in_line a b w u long ew eu

pub line_changes : (u w a b : Point) → Positive (Dot a b b) → turn_of a b u ≡ pos 0 → turn_of a b w ≡ pos 0 →
    Changes u w a b false
line_changes u w a b long eu ew = record {
  up = λ h. line_change u w a b long eu ew;
  down = λ h. line_change w u a b long ew eu;
}
