-- From a point u strictly left of a side ab to a point w on it, strictly between its ends: the side changes the parity
-- exactly where it rises. (At w the side itself is not counted; from u it is, or not, as u's height tells.)
--
--      b
--      |
--   u  w
--      |
--      a
use Rattle.std.specs.Prelude.{◌≡◌, refl, Bool, true, false, List, [], ◌∷◌, ℤ, pos, ◌-ℤ◌, ◌≤ℤ◌, ◌<ℤ◌}
use Rattle.std.proofs.Common.{sym, ◌∙◌, ap₂, subst}
use Rattle.std.specs.Int.Signed.{<ℤ-≤ℤ_trans, clash_ℤ}
use Rattle.whole.specs.Ring.{E, v, ◌:+◌, ◌:-◌, ◌:*◌, neg, ring1, ring2, by_ring}
use Rattle.whole.specs.Order.{Nonneg, Positive, nonneg_pos, positive_nonneg, positive_mul, positive_cancel, sub_le}
use Rattle.whole.specs.Order.{sub_lt, ≤ℤ_trans, ≤ℤ_<ℤ_trans, <ℤ_le}
use Rattle.outline.specs.Drawing.{Point, turn_of}
use Rattle.outline.specs.Spell.{A, B, C, D, P, Q, O, I, env, TurnE}
use Rattle.outline.specs.Odd.{◌⊕◌}
use Rattle.outline.specs.Passing.{higher, passes, crosses}
use Rattle.outline.specs.Signs.{is_above, above_yes, above_no}
use Rattle.outline.specs.ParitySide.{inside}
use Rattle.outline.specs.Compare.{less, not_less}
use Rattle.outline.specs.Inner.{Inner, weight, inner_turned, inner_line, inner_between, inner_level}
use Rattle.outline.specs.Rising.{Rises, rising, falling, leftward, rightward}
use Rattle.outline.specs.SideChanges.{Change, Changes, no_crossing}

-- ---- the truth values: ua says whether a is higher than u, and so on
abbrev Up : Bool → Bool → Bool → Bool → Bool → Type 0
Up ua ub wa wb e = passes ua ub true false ⊕ false ≡ (inside ua wa true ⊕ inside ub wb false) ⊕ e

abbrev Down : Bool → Bool → Bool → Bool → Bool → Type 0
Down ua ub wa wb e = false ⊕ passes ua ub true false ≡ (inside wa ua false ⊕ inside wb ub true) ⊕ e

up_one : (ua wb : Bool) → Up ua true false wb true
up_one true true = refl
up_one true false = refl
up_one false true = refl
up_one false false = refl

up_two : (ub wb : Bool) → Up true ub true wb false
up_two true true = refl
up_two true false = refl
up_two false true = refl
up_two false false = refl

down_one : (ub wa : Bool) → Down false ub wa true true
down_one true true = refl
down_one true false = refl
down_one false true = refl
down_one false false = refl

down_two : (ua wa : Bool) → Down ua false wa false false
down_two true true = refl
down_two true false = refl
down_two false true = refl
down_two false false = refl

-- ---- equal heights
le_of : (s t : ℤ) → s -ℤ t ≡ pos 0 → s ≤ℤ t
le_of s t e = sub_le (subst Nonneg (ring1 (s ∷ t ∷ []) O (v 1 :- v 0) I (v 0 :- v 1) O e refl) (nonneg_pos 0))

ge_of : (s t : ℤ) → s -ℤ t ≡ pos 0 → t ≤ℤ s
ge_of s t e = sub_le (subst Nonneg (sym e) (nonneg_pos 0))

module _ (u w a b : Point) (i : Inner w a b) (left : Positive (turn_of a b u)) where
  abbrev ρ : List ℤ
  ρ = env u w a b i.k i.m (pos 0)

  abbrev mean_x : E
  mean_x = P :* (C.x :- B.x) :+ Q :* (D.x :- B.x)

  abbrev mean_y : E
  mean_y = P :* (C.y :- B.y) :+ Q :* (D.y :- B.y)

  -- a lies right of uw, b left of it
  a_right : Positive (turn_of w u a)
  a_right =
      positive_cancel (positive_nonneg (weight i)) (subst Positive
      (ring2 ρ (Q :* TurnE C D A) ((P :+ Q) :* TurnE B A C) (A.y :- C.y) mean_x O (neg (A.x :- C.x)) mean_y O
      i.mean_x i.mean_y refl)
      (positive_mul i.m+ left))

  b_left : Positive (turn_of u w b)
  b_left =
      positive_cancel (positive_nonneg (weight i)) (subst Positive
      (ring2 ρ (P :* TurnE C D A) ((P :+ Q) :* TurnE A B D) (neg (A.y :- D.y)) mean_x O (A.x :- D.x) mean_y O
      i.mean_x i.mean_y refl)
      (positive_mul i.k+ left))

  a_not : is_above (turn_of u w a) ≡ false
  a_not = above_no (turn_of u w a) (by_ring ρ Nonneg (TurnE B A C) (neg (TurnE A B C)) refl (positive_nonneg a_right))

  b_not : is_above (turn_of w u b) ≡ false
  b_not = above_no (turn_of w u b) (by_ring ρ Nonneg (TurnE A B D) (neg (TurnE B A D)) refl (positive_nonneg b_left))

  -- what the side counts at u
  at_u : crosses u a b ≡ passes (higher u a) (higher u b) true false
  at_u =
      ap₂ (passes (higher u a) (higher u b)) (above_yes left)
      (above_no (turn_of b a u) (by_ring ρ Nonneg (TurnE C D A) (neg (TurnE D C A)) refl (positive_nonneg left)))

  at_w : crosses w a b ≡ false
  at_w = no_crossing w a b (inner_line i)

  to_up : (e : Bool) → Up (higher u a) (higher u b) (higher w a) (higher w b) e → Change u w a b e
  to_up e h =
      ap₂ ◌⊕◌ at_u at_w ∙ h
      ∙ ap₂ (λ s t. (inside (higher u a) (higher w a) s ⊕ inside (higher u b) (higher w b) t) ⊕ e)
      (sym (above_yes a_right)) (sym b_not)

  to_down : (e : Bool) → Down (higher u a) (higher u b) (higher w a) (higher w b) e → Change w u a b e
  to_down e h =
      ap₂ ◌⊕◌ at_w at_u ∙ h
      ∙ ap₂ (λ s t. (inside (higher w a) (higher u a) s ⊕ inside (higher w b) (higher u b) t) ⊕ e)
      (sym a_not) (sym (above_yes b_left))

  -- ---- the heights
  one_up : u.y <ℤ b.y → a.y ≤ℤ w.y → Change u w a b true
  one_up h k = to_up true (rw (less u.y b.y h, not_less w.y a.y k) (up_one (higher u a) (higher w b)))

  none_up : u.y <ℤ a.y → w.y <ℤ a.y → Change u w a b false
  none_up h k = to_up false (rw (less u.y a.y h, less w.y a.y k) (up_two (higher u b) (higher w b)))

  one_down : a.y ≤ℤ u.y → w.y <ℤ b.y → Change w u a b true
  one_down h k =
      to_down true (rw (not_less u.y a.y h, less w.y b.y k) (down_one (higher u b) (higher w a)))

  none_down : b.y ≤ℤ u.y → b.y ≤ℤ w.y → Change w u a b false
  none_down h k =
      to_down false (rw (not_less u.y b.y h, not_less w.y b.y k) (down_two (higher u a) (higher w a)))

  -- w between the ends' heights
  between : Positive (b.y -ℤ a.y) → (a.y <ℤ w.y) × (w.y <ℤ b.y)
  between h = inner_between i.k i.m a.y b.y w.y i.k+ i.m+ i.mean_y h

  between_down : Positive (a.y -ℤ b.y) → (b.y <ℤ w.y) × (w.y <ℤ a.y)
  between_down h =
      let j = inner_turned i in inner_between j.k j.m b.y a.y w.y j.k+ j.m+ j.mean_y h

  -- a level side: w has its height, and u lies below it where it goes to the left, above it where to the right
  level : b.y -ℤ a.y ≡ pos 0 → a.y -ℤ w.y ≡ pos 0
  level e = inner_level i.k i.m a.y b.y w.y i.k+ i.m+ i.mean_y e

  below : b.y -ℤ a.y ≡ pos 0 → Positive (a.x -ℤ b.x) → u.y <ℤ w.y
  below e h =
      sub_lt (positive_cancel (positive_nonneg h) (subst Positive
      (ring2 ρ (TurnE C D A) ((C.x :- D.x) :* (B.y :- A.y)) (neg (A.x :- C.x)) (D.y :- C.y) O
      (C.x :- D.x) (C.y :- B.y) O e (level e) refl)
      left))

  above : b.y -ℤ a.y ≡ pos 0 → Positive (b.x -ℤ a.x) → w.y <ℤ u.y
  above e h =
      sub_lt (positive_cancel (positive_nonneg h) (subst Positive
      (ring2 ρ (TurnE C D A) ((D.x :- C.x) :* (A.y :- B.y)) (neg (A.x :- C.x)) (D.y :- C.y) O
      (C.x :- D.x) (C.y :- B.y) O e (level e) refl)
      left))

  a_low : b.y -ℤ a.y ≡ pos 0 → a.y ≤ℤ w.y
  a_low e = le_of a.y w.y (level e)

  b_low : b.y -ℤ a.y ≡ pos 0 → b.y ≤ℤ w.y
  b_low e = ≤ℤ_trans (le_of b.y a.y e) (a_low e)

  b_high : b.y -ℤ a.y ≡ pos 0 → w.y ≤ℤ b.y
  b_high e = ≤ℤ_trans (ge_of a.y w.y (level e)) (ge_of b.y a.y e)

  pub inner_changes : {e : Bool} → Rises a b e → Changes u w a b e
  inner_changes (rising h) = let z = between h in record {
    up = λ k. one_up (≤ℤ_<ℤ_trans k z.1) (<ℤ_le z.0);
    down = λ k. one_down (≤ℤ_trans (<ℤ_le z.0) k) z.1;
  }
  inner_changes (falling h) = let z = between_down h in record {
    up = λ k. none_up (≤ℤ_<ℤ_trans k z.1) z.1;
    down = λ k. none_down (≤ℤ_trans (<ℤ_le z.0) k) (<ℤ_le z.0);
  }
  inner_changes (leftward e h) = record {
    up = λ k. one_up (<ℤ-≤ℤ_trans (below e h) (b_high e)) (a_low e);
    down = λ k. clash_ℤ (below e h) k;
  }
  inner_changes (rightward e h) = record {
    up = λ k. clash_ℤ (above e h) k;
    down = λ k. none_down (≤ℤ_trans (b_low e) k) (b_low e);
  }
