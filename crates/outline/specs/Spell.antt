-- Points, turns and segments spelled for the solver of `whole`: the coordinates of a, b, c, d are variables 0 to 7,
-- and p, q, r, which name a shared point, are 8 to 10.
use Rattle.std.specs.Prelude.{List, [], ◌∷◌, ℤ, pos}
use Rattle.whole.specs.Ring.{E, v, con, ◌:+◌, ◌:-◌, ◌:*◌}
use Rattle.outline.specs.Drawing.{Point}

pub record PointE : Type 0 where
  pub x : E
  pub y : E

abbrev pub A : PointE
A = record { x = v 0; y = v 1 }

abbrev pub B : PointE
B = record { x = v 2; y = v 3 }

abbrev pub C : PointE
C = record { x = v 4; y = v 5 }

abbrev pub D : PointE
D = record { x = v 6; y = v 7 }

abbrev pub P : E
P = v 8

abbrev pub Q : E
Q = v 9

abbrev pub R : E
R = v 10

abbrev pub O : E
O = con (pos 0)

abbrev pub I : E
I = con (pos 1)

abbrev pub Two : E
Two = con (pos 2)

abbrev pub env : Point → Point → Point → Point → ℤ → ℤ → ℤ → List ℤ
env a b c d p q r = a.x ∷ a.y ∷ b.x ∷ b.y ∷ c.x ∷ c.y ∷ d.x ∷ d.y ∷ p ∷ q ∷ r ∷ []

-- the four points alone
abbrev pub env4 : Point → Point → Point → Point → List ℤ
env4 a b c d = env a b c d (pos 0) (pos 0) (pos 0)

abbrev pub TurnE : PointE → PointE → PointE → E
TurnE a b c = (b.x :- a.x) :* (c.y :- a.y) :- (b.y :- a.y) :* (c.x :- a.x)

-- a point k times as far out
abbrev pub OutE : E → PointE → PointE
OutE k a = record { x = k :* a.x; y = k :* a.y }

abbrev pub DotE : PointE → PointE → PointE → E
DotE z u w = (u.x :- z.x) :* (w.x :- z.x) :+ (u.y :- z.y) :* (w.y :- z.y)

-- p times as far out
abbrev pub out_e : PointE → PointE
out_e a = record { x = P :* a.x; y = P :* a.y }

-- r times a coordinate of the point of a segment that p and r name; the segment's ends have s and t there
abbrev pub At : E → E → E → E → E
At r s p t = r :* s :+ p :* (t :- s)

-- the sides of 01's two equations: the point on ab, and the point on cd
abbrev pub ab_x : E
ab_x = At R A.x P B.x

abbrev pub ab_y : E
ab_y = At R A.y P B.y

abbrev pub cd_x : E
cd_x = At R C.x Q D.x

abbrev pub cd_y : E
cd_y = At R C.y Q D.y
