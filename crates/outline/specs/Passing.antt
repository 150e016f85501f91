-- A side that passes at a point's height strictly to its right, told by the heights of its two ends and one turn. The
-- side is taken r times as far out, so that the point is a pair of whole numbers.
-- (The theorems that follow are in proofs/, under the same name.)
use Rattle.std.specs.Prelude.{refl, Bool, true, false, pos, ◌-ℤ◌, ◌*ℤ◌, ◌≤ℤ◌, ◌<ℤ◌}
use Rattle.std.proofs.Common.{subst}
use Rattle.std.specs.Int.Signed.{lt_z}
use Rattle.whole.specs.Ring.{E, ◌:-◌, ◌:*◌, ring, ring1, by_ring}
use Rattle.whole.specs.Order.{Nonneg, Positive, positive_nonneg, positive_mul, positive_cancel}
use Rattle.whole.specs.Order.{le_sub, sub_le, lt_sub, sub_lt}
use Rattle.whole.specs.Order.{≤ℤ_<ℤ_trans}
use Rattle.outline.specs.Drawing.{Point, turn_of}
use Rattle.outline.specs.InOrOn.{Spot, Higher, PassesRight}
use Rattle.outline.specs.Spell.{A, B, C, P, Q, R, I, env, OutE, TurnE, At}

-- ---- the test
-- is the end a higher than e; is e strictly left of the line from a to b
abbrev pub higher : Point → Point → Bool
higher e a = lt_z e.y a.y

abbrev pub left : Point → Point → Point → Bool
left e a b = lt_z (pos 0) (turn_of a b e)

-- of a side, by its first end and its second: where it rises, e has to be on its left, and where it falls, on the left
-- of it turned round
abbrev pub passes : Bool → Bool → Bool → Bool → Bool
passes true true up down = false
passes true false up down = down
passes false true up down = up
passes false false up down = false

abbrev pub crosses : Point → Point → Point → Bool
crosses e a b = passes (higher e a) (higher e b) (left e a b) (left e b a)

-- a point without its r, and a corner r times as far out
abbrev pub top : Spot → Point
top z = record { x = z.x; y = z.y }

abbrev pub grown : Spot → Point → Point
grown z a = record { x = z.r *ℤ a.x; y = z.r *ℤ a.y }

-- ---- the test equals 01's sentence. A, B and C spell a, b and the point
abbrev turn_e : E
turn_e = TurnE (OutE R A) (OutE R B) C

-- how far the side rises, and the point above its start
abbrev rise_e : E
rise_e = R :* B.y :- R :* A.y

abbrev over_e : E
over_e = C.y :- R :* A.y

module _ (z : Spot) (a b : Point) where
  -- a side that rises past the point
  module _ (low : (z.r *ℤ a.y) ≤ℤ z.y) (high : Higher z b) where
    rises : Positive (z.r *ℤ b.y -ℤ z.r *ℤ a.y)
    rises = lt_sub (≤ℤ_<ℤ_trans low high)

    pub right_left : PassesRight z a b → Positive (turn_of (grown z a) (grown z b) (top z))
    right_left t =
        positive_cancel (positive_nonneg t.q_above)
        (subst Positive
        (ring1 (env a b (top z) a t.p t.q z.r) (rise_e :* (R :* At Q A.x P B.x :- Q :* C.x))
        (Q :* turn_e)
        (R :* B.x :- R :* A.x) (R :* At Q A.y P B.y) (Q :* C.y) t.height refl)
        (positive_mul rises (lt_sub t.larger)))

    pub left_right : Positive (turn_of (grown z a) (grown z b) (top z)) → PassesRight z a b
    left_right t =
        let ρ = env a b (top z) a (pos 0) (pos 0) z.r in
        record {
          p = z.y -ℤ z.r *ℤ a.y;
          q = z.r *ℤ b.y -ℤ z.r *ℤ a.y;
          q_above = rises;
          p_from = le_sub low;
          p_to = sub_le (by_ring ρ Nonneg (R :* B.y :- C.y) (rise_e :- over_e) refl (positive_nonneg (lt_sub high)));
          height = ring ρ (R :* At rise_e A.y over_e B.y) (rise_e :* C.y) refl;
          larger = sub_lt (by_ring ρ Positive turn_e (R :* At rise_e A.x over_e B.x :- rise_e :* C.x) refl t);
        }

  -- and one that falls, turned round
  pub turned : PassesRight z a b → PassesRight z b a
  turned t =
      let ρ = env a b (top z) a t.p t.q z.r in
      record {
        p = t.q -ℤ t.p;
        q = t.q;
        q_above = t.q_above;
        p_from = le_sub t.p_to;
        p_to = sub_le (by_ring ρ Nonneg P (Q :- (Q :- P)) refl t.p_from);
        height =
            ring1 ρ (R :* At Q B.y (Q :- P) A.y) (Q :* C.y) I (R :* At Q A.y P B.y) (Q :* C.y)
            t.height refl;
        larger =
            subst (λ k. (t.q *ℤ z.x) <ℤ k)
            (ring ρ (R :* At Q A.x P B.x) (R :* At Q B.x (Q :- P) A.x) refl) t.larger;
      }
