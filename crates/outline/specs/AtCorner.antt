-- The corners of a simple drawing: left of all its sides the parity is one value, and close to a corner a direction
-- along neither side has that value exactly where it lies inside the corner's angle.
use Rattle.std.specs.Prelude.{◌≡◌, refl, Bool, List, ℕ, zero, suc, ◌<◌, ℤ}
use Rattle.std.proofs.Common.{sym, ◌∙◌, ap, subst, inl, inr, arith}
use Rattle.whole.specs.Order.{Positive}
use Rattle.outline.specs.Drawing.{Point, SharedOnlyAt, Simple, corner, corners, after, next, prev, EndsAt}
use Rattle.outline.specs.Segments.{Dot, only_exchanged, only_second}
use Rattle.outline.specs.Ends.{OnlyEnd, only_complete}
use Rattle.outline.specs.Round.{prev_below, next_prev, prev_next}
use Rattle.outline.specs.Placed.{On}
use Rattle.outline.specs.Reading.{round, round_inner, round_closed}
use Rattle.outline.specs.Along.{apart_length}
use Rattle.outline.specs.CornersApart.{simple_read}
use Rattle.outline.specs.Barred.{off_side}
use Rattle.outline.specs.Directions.{Away, away_of, length_back}
use Rattle.outline.specs.Value.{left}
use Rattle.outline.specs.NearCorner.{Corner}
use Rattle.outline.specs.CornerSides.{same_left}
use Rattle.outline.specs.CornerTells.{Close, corner_tells}

-- the value left of side k
abbrev pub left_of : List ℤ → ℕ → Bool
left_of d k = left (round d) (corners d) k

module _ (d : List ℤ) (simple : Simple d) where
  -- ---- corner i, with the corner before it and the corner after it
  module _ (i : ℕ) (hi : i < corners d) where
    abbrev before : ℕ
    before = prev (corners d) i

    before_below : prev (corners d) i < corners d
    before_below = prev_below (corners d) i hi

    here : round d i ≡ corner d i
    here = round_inner d i hi

    side_after : Positive (Dot (corner d i) (corner d (after d i)) (corner d (after d i)))
    side_after = apart_length (corner d i) (corner d (after d i)) (simple.two_ends i hi)

    side_before : Positive (Dot (corner d i) (corner d before) (corner d before))
    side_before =
        length_back (corner d before) (corner d i)
        (subst (λ k. Positive (Dot (corner d before) (corner d k) (corner d k))) (next_prev (corners d) i hi)
        (apart_length (corner d before) (corner d (after d before)) (simple.two_ends before before_below)))

    -- the two sides share only corner i
    only_here : SharedOnlyAt (corner d i) (corner d before) (corner d i) (corner d i) (corner d (after d i))
    only_here =
        subst (λ k. SharedOnlyAt (corner d k) (corner d before) (corner d k) (corner d k) (corner d (after d k)))
        (next_prev (corners d) i hi) (simple.neighbours before before_below)

    pub turns : Away (corner d i) (corner d (after d i)) (corner d before)
    turns =
        away_of (corner d i) (corner d (after d i)) (corner d before) side_after side_before
        (only_complete (only_second (only_exchanged only_here)))

    -- no other side has it
    others_off : (m : ℕ) → m < corners d → ¬ (m ≡ before) → ¬ (m ≡ i) → ¬ On (round d i) (round d m) (round d (suc m))
    others_off m hm not_before not_i o =
        off_side d simple i m hi hm ends
        (subst (λ a. On (corner d i) a (corner d (after d m))) (round_inner d m hm)
        (subst (λ a. On a (round d m) (corner d (after d m))) here o))
      where
        ends : ¬ EndsAt d m i
        ends (inl e) = not_i e
        ends (inr e) = not_before (sym (prev_next (corners d) m hm) ∙ ap (prev (corners d)) e)

    corner_of : Corner (round d) (corners d) before i
    corner_of = record {
      closed = round_closed d;
      simple = simple_read d simple;
      s_below = before_below;
      t_below = hi;
      two = λ e. simple.two_ends i hi
          (ap (corner d) (sym (ap (next (corners d)) (sym e) ∙ next_prev (corners d) i hi)));
      joined = ap (corner d) (next_prev (corners d) i hi) ∙ sym here;
      off_others = others_off;
      turns = subst (λ a. Away a (corner d (after d i)) (round d before)) (sym here)
          (subst (λ a. Away (corner d i) (corner d (after d i)) a) (sym (round_inner d before before_below)) turns);
    }

  -- ---- left of every side the same
  pub all_left : (k : ℕ) → k < corners d → left_of d k ≡ left_of d 0
  all_left zero h = refl
  all_left (suc k) h =
      sym (same_left (round d) (corners d) k (suc k) (corner_of (suc k) h)) ∙ all_left k (omega arith)

  -- ---- a point J along neither side of corner i
  pub at_corner : (i : ℕ) → i < corners d → (J : Point) → ¬ (corner d i ≡ J) →
      OnlyEnd (corner d i) J (corner d (after d i)) → OnlyEnd (corner d i) J (corner d (prev (corners d) i)) →
      Close (round d) (corners d) (left_of d 0) (corner d (prev (corners d) i)) (corner d i) (corner d (after d i)) J
  at_corner i hi J apart off_after off_before =
      subst (λ l. Close (round d) (corners d) l p W q J) (all_left i hi)
      (subst (λ z. Close (round d) (corners d) (left_of d i) z W q J) there
      (subst (λ z. Close (round d) (corners d) (left_of d i) (round d before_i) z q J) (here i hi)
      (corner_tells (round d) (corners d) before_i i (corner_of i hi) J
      (subst (λ z. Positive (Dot z J J)) (sym (here i hi)) long)
      (subst (λ z. Away z J q) (sym (here i hi)) (away_of W J q long (side_after i hi) off_after))
      (subst (λ z. Away z J (round d before_i)) (sym (here i hi))
      (subst (λ z. Away W J z) (sym there) (away_of W J p long (side_before i hi) off_before))))))
    where
      before_i : ℕ
      before_i = prev (corners d) i

      p : Point
      p = corner d (prev (corners d) i)

      W : Point
      W = corner d i

      q : Point
      q = corner d (after d i)

      there : round d (prev (corners d) i) ≡ corner d (prev (corners d) i)
      there = round_inner d (prev (corners d) i) (before_below i hi)

      long : Positive (Dot (corner d i) J J)
      long = apart_length (corner d i) J apart
