-- Two segments meet where none of the four turns, each point against the other segment, is negative, and one of them
-- is above zero: the turns are the places of the shared point.
--
--      b   Q      Turn Q P a, Turn P Q b, Turn a b P and Turn b a Q
--       \ /
--       / \
--      P   a
use Rattle.std.specs.Prelude.{refl, ℤ, ◌+ℤ◌}
use Rattle.whole.specs.Ring.{E, ◌:+◌, ◌:-◌, ring, by_ring}
use Rattle.whole.specs.Order.{Nonneg, Positive, positive_add, sub_le}
use Rattle.outline.specs.Drawing.{Point, Shared, turn_of}
use Rattle.outline.specs.Spell.{A, B, C, D, env4, TurnE, At}
use Rattle.outline.specs.Segments.{turned_second}

pub data OneAbove (n1 n2 n3 n4 : ℤ) : Type 0 where
  first : Positive n1 → OneAbove n1 n2 n3 n4
  second : Positive n2 → OneAbove n1 n2 n3 n4
  third : Positive n3 → OneAbove n1 n2 n3 n4
  fourth : Positive n4 → OneAbove n1 n2 n3 n4

-- twice the area of P, a, Q and b, of which the segments are the diagonals. P, Q, a and b are A, B, C and D
abbrev area_e : E
area_e = TurnE B A C :+ TurnE A B D

module _ (P Q a b : Point) where
  pub meets : Nonneg (turn_of Q P a) → Nonneg (turn_of P Q b) → Nonneg (turn_of a b P) → Nonneg (turn_of b a Q) →
      OneAbove (turn_of Q P a) (turn_of P Q b) (turn_of a b P) (turn_of b a Q) → Shared P Q a b
  meets h1 h2 h3 h4 h =
      let ρ = env4 P Q a b in
      record {
        p = turn_of a b P;
        q = turn_of Q P a;
        r = turn_of Q P a +ℤ turn_of P Q b;
        r_above = area h;
        p_from = h3;
        p_to = sub_le (by_ring ρ Nonneg (TurnE D C B) (area_e :- TurnE C D A) refl h4);
        q_from = h1;
        q_to = sub_le (by_ring ρ Nonneg (TurnE A B D) (area_e :- TurnE B A C) refl h2);
        same_x = ring ρ (At area_e A.x (TurnE C D A) B.x) (At area_e C.x (TurnE B A C) D.x) refl;
        same_y = ring ρ (At area_e A.y (TurnE C D A) B.y) (At area_e C.y (TurnE B A C) D.y) refl;
      }
    where
      area : OneAbove (turn_of Q P a) (turn_of P Q b) (turn_of a b P) (turn_of b a Q) →
          Positive (turn_of Q P a +ℤ turn_of P Q b)
      area (first k) = positive_add k h2
      area (second k) =
          by_ring (env4 P Q a b) Positive (TurnE A B D :+ TurnE B A C) area_e refl (positive_add k h1)
      area (third k) =
          by_ring (env4 P Q a b) Positive (TurnE C D A :+ TurnE D C B) area_e refl (positive_add k h4)
      area (fourth k) =
          by_ring (env4 P Q a b) Positive (TurnE D C B :+ TurnE C D A) area_e refl (positive_add k h3)

-- the side crosses the other way
pub meets_back : (P Q a b : Point) → Nonneg (turn_of P Q a) → Nonneg (turn_of Q P b) → Nonneg (turn_of b a P) →
    Nonneg (turn_of a b Q) → OneAbove (turn_of P Q a) (turn_of Q P b) (turn_of b a P) (turn_of a b Q) → Shared P Q a b
meets_back P Q a b h1 h2 h3 h4 h = turned_second (meets P Q b a h2 h1 h3 h4 (go h))
  where
    go : {k l m n : ℤ} → OneAbove k l m n → OneAbove l k m n
    go (first h) = second h
    go (second h) = first h
    go (third h) = third h
    go (fourth h) = fourth h
