-- A third corner k on the segment ij: i and j do not see each other by 01's rule; as a centre, i sees j exactly when
-- i sees k and k sees j; and both parts are shorter than the whole, by the squares of their lengths.
--
--     i ------- k --- j
-- (The theorems that follow are in proofs/, under the same name.)
use Rattle.std.specs.Prelude.{◌≡◌, refl, List, ℕ, ◌<◌, ℤ, pos, negsuc, nat_abs, ◌<ℤ◌}
use Rattle.std.proofs.Common.{ltb→lt}
use Rattle.whole.specs.Ring.{◌:+◌, ◌:-◌, ring, by_ring}
use Rattle.whole.specs.Order.{Nonneg, Positive, positive_add, nonneg_add, le_sub, sub_lt}
use Rattle.outline.specs.Drawing.{Point, corner}
use Rattle.outline.specs.Segments.{dot_nonneg}
use Rattle.outline.specs.Spell.{A, B, C, O, env4, DotE}
use Rattle.outline.specs.Placed.{On, on_dot}
use Rattle.outline.specs.Along.{len2, apart_length}

-- ---- shorter
abs_less : (a b : ℤ) → Nonneg a → a <ℤ b → nat_abs a < nat_abs b
abs_less (pos m) (pos n) h k = ltb→lt m n k.lt
abs_less (pos m) (negsuc n) h k = absurd k.lt
abs_less (negsuc m) b h k = absurd h.le

-- the angle at k is straight, so |ij|^2 is at least |ik|^2 + |kj|^2
pub shorter : (i k j : Point) → On k i j → ¬ (k ≡ j) → nat_abs (len2 i k) < nat_abs (len2 i j)
shorter i k j o kj =
    abs_less (len2 i k) (len2 i j) (dot_nonneg i k)
    (sub_lt (by_ring (env4 i k j j) Positive (DotE B C C :+ ((O :- DotE B A C) :+ (O :- DotE B A C)))
    (DotE A C C :- DotE A B B) refl
    (positive_add (apart_length k j kj) (nonneg_add (le_sub (on_dot o)) (le_sub (on_dot o))))))

pub length_turned : (a b : Point) → len2 a b ≡ len2 b a
length_turned a b = ring (env4 a b b b) (DotE A B B) (DotE B A A) refl

pub no_length : (a : Point) → len2 a a ≡ pos 0
no_length a = ring (env4 a a a a) (DotE A A A) O refl

-- the square of the length of ij
abbrev pub long : List ℤ → ℕ → ℕ → ℕ
long d i j = nat_abs (len2 (corner d i) (corner d j))
