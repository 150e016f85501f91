-- `drawing::masks::know` meets its contract: with k sides left the masks tell of the sides from k on.
use mathlib.Core.Path.{◌≡◌, refl, sym, ap, ◌∙◌, subst}
use Prim.Native.Nat.{ℕ, ◌-◌, ◌*◌, ◌%◌, ◌^◌, ◌≤◌, ◌<◌}
use native.Mathlib.Omega.{arith}
use lib.Bits.{bit_xor}
use Rattle.whole.specs.Bits.{shifted_one}
use Rattle.whole.specs.Masks.{Marks}
use Rattle.outline.specs.Drawing.{corners, next}
use Rattle.drawing.specs.Known.{OnLine, Along}
use Rattle.outline.specs.Round.{next_prev, next_inner}
use Rattle.drawing.specs.Away.{Away, cross_turn, less, less_back}
use Rattle.drawing.specs.Digits.{right_marks, along_marks}
use Rattle.drawing.proofs.Machine.{by_lt, by_nought, held, x_away, y_away}
use Rattle.drawing.proofs.Machine.{digit, digit_small, either, down_room, made_first, made_down, made_last, all_fits}
use Rattle.drawing.proofs.masks.know.Goals as goal

-- side k - 2 ends where side k - 1 begins
next_lower : (n k : ℕ) → 0 < k - 1 → k ≤ n → next n (k - 1 - 1) ≡ k - 1
next_lower n k l h = next_inner n (k - 1 - 1) (omega (arith, l, h)) ∙ omega (arith, l)

-- the far end of the last side is the first corner
pub loop-k-init : goal.loop-k-init
loop-k-init c =
    let d = c.args.ring.xy.now in
    let all = c.count-n.ensures in (
      made_first all,
      made_first all,
      made_first all,
      made_first all,
      made_first all,
      λ l. rw all (subst (λ m. Away d c.args.i m c.away-end.result)
          (sym (next_prev (corners d) 0 (rw all at l))) c.away-end.ensures),
    )

pub overflow_add-low : goal.overflow_add-low
overflow_add-low c =
    let h : c.loop-k.k ≤ corners c.args.ring.xy.now = rw c.count-n.ensures at c.loop-k.auto.k in
    let few = c.args.ring.sound.shaped.few in
    let inv = c.loop-k.invariant in
    record { fits = rw c.from-in-loop-k-2.ensures (down_room c.loop-k-test.true h few inv.3 (digit_small _)) }

pub overflow_add-west : goal.overflow_add-west
overflow_add-west c =
    let h : c.loop-k.k ≤ corners c.args.ring.xy.now = rw c.count-n.ensures at c.loop-k.auto.k in
    let few = c.args.ring.sound.shaped.few in
    let inv = c.loop-k.invariant in
    record { fits = rw c.from-in-loop-k-3.ensures (down_room c.loop-k-test.true h few inv.4 (digit_small _)) }

pub loop-k-preserved : goal.loop-k-preserved
loop-k-preserved c =
    let d = c.args.ring.xy.now in
    let inv = c.loop-k.invariant in
    let l = c.loop-k-test.true in
    let h : c.loop-k.k ≤ corners d = rw c.count-n.ensures at c.loop-k.auto.k in
    let start = c.away-start.ensures in
    let end = inv.5 l in
    let is = held c.cross-s.type_inv (c.cross-s.ensures ∙ cross_turn start end) in (
      made_down l h inv.0 (record { small = omega arith; one = λ e. refl; nought = λ e. absurd (omega arith) }),
      rw c.from.ensures (made_down l h inv.1 (digit (by_lt refl is (λ h. h) (λ h. h)))),
      rw c.from-in-loop-k.ensures
          (made_down l h inv.2 (digit (by_nought c.cross-s.type_inv (c.cross-s.ensures ∙ cross_turn start end)))),
      rw c.from-in-loop-k-2.ensures
          (made_down l h inv.3
          (either (by_lt (y_away start.far).is refl (less start.is_y) (less_back start.is_y))
          (by_lt (y_away end.far).is refl (less end.is_y) (less_back end.is_y)))),
      rw c.from-in-loop-k-3.ensures
          (made_down l h inv.4
          (either (by_lt (x_away start.far).is refl (less start.is_x) (less_back start.is_x))
          (by_lt (x_away end.far).is refl (less end.is_x) (less_back end.is_x)))),
      λ more. subst (λ m. Away d c.args.i m c.away-start.result) (sym (next_lower (corners d) _ more h)) start,
    )

pub returns : goal.returns
returns c =
    let sides : (c.prev-h.result < 64) × (c.args.i < 64) =
    let few = c.args.ring.sound.shaped.few in
    (omega (arith, c.prev-h.ensures.below, few), omega (arith, c.requires, few)) in
    let none = c.loop-k-test.false in
    let flat : let s = c.args in
    Marks (corners s.ring.xy.now) c.loop-k.flat (OnLine s.ring.xy.now s.i) =
    made_last none c.loop-k.invariant.2 in
    let along : let s = c.args in
    let before = 1 * 2 ^ c.prev-h.result % 2 ^ 64 in
    let after = 1 * 2 ^ s.i % 2 ^ 64 in
    Marks (corners s.ring.xy.now) (bit_xor (bit_xor c.loop-k.flat before) after)
    (Along s.ring.xy.now s.i) =
    let before = shifted_one c.prev-h.result sides.0 ∙ ap (λ y. 2 ^ y) c.prev-h.ensures.is in
    rw (before, shifted_one c.args.i sides.1)
    (along_marks c.args.ring.xy.now c.args.i c.requires (omega (arith, c.args.ring.sound.shaped.enough)) flat) in
    let loop = c.loop-k in
    let left = made_last none loop.invariant.1 in
    record {
      left_of = left;
      right_of = right_marks c.args.ring.xy.now c.args.i (made_last none loop.invariant.0) left flat;
      along_of = along;
      low_of = made_last none loop.invariant.3;
      west_of = made_last none loop.invariant.4;
      left_fits = all_fits none loop.invariant.1;
      needs = c.need-need.ensures;
    }
