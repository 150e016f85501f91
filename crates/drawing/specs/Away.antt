-- A side from one corner: its two ends, as far as they are from there, tell on which side of it the corner lies, and
-- which of them is lower than the corner or west of it.
use Rattle.std.specs.Prelude.{◌≡◌, refl, List, [], ◌∷◌, ℕ, ◌*◌, ◌≤◌, ℤ, pos, nat_abs, ◌-ℤ◌, ◌*ℤ◌, ◌<ℤ◌}
use Rattle.std.proofs.Common.{sym, subst}
use Rattle.limits.specs.Limits.{furthest}
use Rattle.whole.specs.Ring.{v, con, ◌:-◌, ◌:*◌, ring, by_ring}
use Rattle.whole.specs.Order.{Positive, sub_lt, lt_sub}
use Rattle.outline.specs.Drawing.{corner, after}
use Rattle.outline.specs.Spell.{A, C, D, env4, TurnE}
use Rattle.drawing.specs.Known.{side_turn}
use Rattle.drawing.specs.declared.segment.Place.{Place}

-- no further than two corners can be
pub record Far (p : Place) : Type 0 where
  pub far_x : nat_abs p.x ≤ 2 * furthest
  pub far_y : nat_abs p.y ≤ 2 * furthest

pub record Away (d : List ℤ) (i k : ℕ) (r : Place) : Type 0 where
  pub is_x : r.x ≡ (corner d k).x -ℤ (corner d i).x
  pub is_y : r.y ≡ (corner d k).y -ℤ (corner d i).y
  pub far : Far r

abbrev pub cross_of : Place → Place → ℤ
cross_of c d = c.x *ℤ d.y -ℤ c.y *ℤ d.x

pub cross_turn : {d : List ℤ} {i k : ℕ} {c e : Place} → Away d i k c → Away d i (after d k) e →
    cross_of c e ≡ side_turn d i k
cross_turn {d} {i} {k} h g = rw (h.is_x, h.is_y, g.is_x, g.is_y)
    (ring (env4 (corner d i) (corner d i) (corner d k) (corner d (after d k)))
    ((C.x :- A.x) :* (D.y :- A.y) :- (C.y :- A.y) :* (D.x :- A.x)) (TurnE C D A) refl)

-- a difference is below zero where the first is less
module _ {z x y : ℤ} (is : z ≡ x -ℤ y) where
  pub less : z <ℤ pos 0 → x <ℤ y
  less l =
      sub_lt (by_ring (x ∷ y ∷ []) Positive (con (pos 0) :- (v 0 :- v 1)) (v 1 :- v 0) refl
      (lt_sub (subst (λ z. z <ℤ pos 0) is l)))

  pub less_back : x <ℤ y → z <ℤ pos 0
  less_back l =
      subst (λ z. z <ℤ pos 0) (sym is)
      (sub_lt (by_ring (x ∷ y ∷ []) Positive (v 1 :- v 0) (con (pos 0) :- (v 0 :- v 1)) refl (lt_sub l)))
