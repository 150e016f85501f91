-- Close to a corner W: in a drawing K times as large, 1/K of the way from W to I and to J; and a side from W to e.
--
--         J                  The segment between the two near points meets the side from W exactly
--        /  e                where the side goes between I and J.
--       /.--
--      W ------ I
use Rattle.std.specs.Prelude.{◌≡◌, refl, Bool, [], ◌∷◌, ℤ, pos, neg_ℤ, ◌-ℤ◌, ◌*ℤ◌, ◌≤ℤ◌}
use Rattle.std.proofs.Common.{◌∙◌, subst, inl}
use Rattle.whole.specs.Ring.{v, ◌:+◌, ◌:-◌, ◌:*◌, neg, ring, by_ring}
use Rattle.whole.specs.Order.{Nonneg, Positive, nonneg_pos, nonneg_add, nonneg_mul, positive_nonneg, positive_add}
use Rattle.whole.specs.Order.{positive_mul, positive_pred, positive_not, zero_cancel, le_sub}
use Rattle.outline.specs.Drawing.{Point, Shared, turn_of}
use Rattle.outline.specs.Segments.{one_side, turned_first, exchanged, dot_nonneg}
use Rattle.outline.specs.Spell.{PointE, A, B, C, D, P, O, I, env, out_e, TurnE, DotE}
use Rattle.outline.specs.Placed.{On, on_dot}
use Rattle.outline.specs.Parity.{out}
use Rattle.outline.specs.Through.{RunsThrough}
use Rattle.outline.specs.Near.{near}
use Rattle.outline.specs.Directions.{Away, right_left, in_line_back}
use Rattle.outline.specs.Inner.{inner_turned, inner_near}
use Rattle.outline.specs.Rising.{Rises}
use Rattle.outline.specs.SideChanges.{Changes}
use Rattle.outline.specs.InnerChanges.{inner_changes}

-- A spells W, P spells K
abbrev near_e : PointE → PointE
near_e z = record { x = P :* A.x :+ (z.x :- A.x); y = P :* A.y :+ (z.y :- A.y) }

-- K is large enough
pub above_one : (K : ℤ) → Positive (K -ℤ pos 1) → Positive K
above_one K h = by_ring (K ∷ []) Positive (v 0 :- I :+ I) (v 0) refl (positive_add h (nonneg_pos 1))

-- ---- the turns of a near point
module _ (W z e : Point) (K : ℤ) where
  pub turn_from : K *ℤ turn_of W e z ≡ turn_of (out K W) (out K e) (near W K z)
  turn_from =
      ring (env W z e e K (pos 0) (pos 0)) (P :* TurnE A C B) (TurnE (out_e A) (out_e C) (near_e B)) refl

  pub turn_to : K *ℤ turn_of W z e ≡ turn_of (out K e) (out K W) (near W K z)
  turn_to = ring (env W z e e K (pos 0) (pos 0)) (P :* TurnE A B C) (TurnE (out_e C) (out_e A) (near_e B)) refl

-- ---- the side from W to e does not go between I and J, where J is left of I
pub data Beyond (x y : ℤ) : Type 0 where
  behind : Nonneg (neg_ℤ x) → Nonneg (neg_ℤ y) → Beyond x y
  before_I : Positive (neg_ℤ x) → Positive y → Beyond x y
  past_J : Positive x → Positive (neg_ℤ y) → Beyond x y

module _ (W I' J e : Point) (K : ℤ) (K+ : Positive K) (left : Positive (turn_of W I' J)) where
  at_W : Positive (turn_of (near W K I') (near W K J) (out K W))
  at_W =
      by_ring (env W I' J e K (pos 0) (pos 0)) Positive (TurnE A B C) (TurnE (near_e B) (near_e C) (out_e A)) refl left

  pub ray_apart : Beyond (turn_of W I' e) (turn_of W e J) → ¬ Shared (near W K I') (near W K J) (out K e) (out K W)
  ray_apart (behind hx hy) s =
      one_side (inl (
        by_ring (env W I' J e K (pos 0) (pos 0)) Positive
            (TurnE A B C :+ P :* (neg (TurnE A B D) :+ neg (TurnE A D C))) (TurnE (near_e B) (near_e C) (out_e D)) refl
            (positive_add left (nonneg_mul (positive_nonneg K+) (nonneg_add hx hy))),
        at_W,
      )) s
  ray_apart (before_I hx hy) s =
      one_side (inl (
        subst Positive (turn_from W I' e K) (positive_mul K+ (right_left W I' e hx)),
        subst Positive (turn_from W J e K) (positive_mul K+ hy),
      )) (turned_first (exchanged s))
  ray_apart (past_J hx hy) s =
      one_side (inl (
        subst Positive (turn_to W I' e K) (positive_mul K+ hx),
        subst Positive (turn_to W J e K) (positive_mul K+ (right_left W e J hy)),
      )) (exchanged s)

  -- it does
  pub ray_thru : Positive (turn_of W I' e) → Positive (turn_of W e J) → turn_of W I' J ≤ℤ K →
      RunsThrough (near W K I') (near W K J) (out K e) (out K W)
  ray_thru hx hy h = record {
    t1 = by_ring (env W I' J e K (pos 0) (pos 0)) Positive
        (P :+ (P :* (TurnE A B D :- I) :+ P :* (TurnE A D C :- I) :+ (P :- TurnE A B C)))
        (TurnE (near_e C) (near_e B) (out_e D)) refl
        (positive_add K+ (nonneg_add (nonneg_add (nonneg_mul (positive_nonneg K+) (positive_pred hx))
        (nonneg_mul (positive_nonneg K+) (positive_pred hy))) (le_sub h)));
    t2 = at_W;
    t3 = subst Positive (turn_to W I' e K) (positive_mul K+ hx);
    t4 = subst Positive (turn_from W J e K) (positive_mul K+ hy);
  }

-- ---- a direction that does not point along the side from W to e: its near point is not on the side
pub ray_off : (W e J : Point) (K : ℤ) → Positive K → Away W J e → ¬ On (near W K J) (out K W) (out K e)
ray_off W e J K K+ away o =
    positive_not (positive_mul K+ (away (in_line_back W e J (zero_cancel K+ (turn_from W J e K ∙ o.line)))))
    (by_ring (env W J e e K (pos 0) (pos 0)) Nonneg (O :- DotE (near_e B) (out_e A) (out_e C) :+ DotE A B B)
    (neg (P :* neg (DotE A B C))) refl
    (nonneg_add (le_sub (on_dot o)) (dot_nonneg W J)))

-- ---- from the near point of I to that of e, on the side between W and e: the side changes the parity as it rises
module _ (W z e : Point) (K : ℤ) (big : Positive (K -ℤ pos 1)) where
  pub from_left : Positive (turn_of W e z) → {r : Bool} → Rises (out K W) (out K e) r →
      Changes (near W K z) (near W K e) (out K W) (out K e) r
  from_left h r =
      inner_changes (near W K z) (near W K e) (out K W) (out K e) (inner_near W e K big)
      (subst Positive (turn_from W z e K) (positive_mul (above_one K big) h)) r

  pub from_right : Positive (turn_of W z e) → {r : Bool} → Rises (out K e) (out K W) r →
      Changes (near W K z) (near W K e) (out K e) (out K W) r
  from_right h r =
      inner_changes (near W K z) (near W K e) (out K e) (out K W) (inner_turned (inner_near W e K big))
      (subst Positive (turn_to W z e K) (positive_mul (above_one K big) h)) r
