-- How far along a segment IJ a point of its line stands: the product of `Segments`, (w - I) . (J - I). It is nothing
-- at I and the squared length at J, and of two points of the line the one with the smaller product comes first.
--
--      I ------ z ---------- w ------ J         0 <= along z <= along w <= len2
use Rattle.std.specs.Prelude.{◌≡◌, refl, ◌⊎◌, [], ◌∷◌, ℤ, pos, ◌-ℤ◌, ◌*ℤ◌, ◌≤ℤ◌, ◌<ℤ◌}
use Rattle.std.proofs.Common.{sym, ◌∙◌, inl, inr}
use Rattle.whole.specs.Ring.{v, ◌:+◌, ◌:-◌, ◌:*◌, neg, ring, ring1, ring2, by_ring}
use Rattle.whole.specs.Order.{Nonneg, Positive, nonneg_add, zero_cancel, le_sub, sub_le, lt_sub, ≤ℤ_total}
use Rattle.whole.specs.Order.{squares_zero, diff_zero}
use Rattle.outline.specs.Drawing.{Point, turn_of}
use Rattle.outline.specs.Spell.{A, B, C, D, O, I, env4, TurnE, DotE}
use Rattle.outline.specs.Segments.{point_eq, Dot, dot_nonneg}
use Rattle.outline.specs.Placed.{On, on_of, on_dot}

-- the squared length of IJ, and how far along it w stands
abbrev pub len2 : Point → Point → ℤ
len2 I J = Dot I J J

abbrev pub along : Point → Point → Point → ℤ
along I J w = Dot I w J

pub along_start : (a b : Point) → along a b a ≡ pos 0
along_start a b = ring (env4 a b a b) (DotE A A B) O refl

-- two different points have a length between them
pub apart_length : (a b : Point) → ¬ (a ≡ b) → Positive (len2 a b)
apart_length a b ne = go (≤ℤ_total (len2 a b) (pos 0))
  where
    go : (len2 a b ≤ℤ pos 0) ⊎ (pos 0 <ℤ len2 a b) → Positive (len2 a b)
    go (inl h) =
        let z = squares_zero (b.x -ℤ a.x) (b.y -ℤ a.y) h in
        absurd (ne (point_eq (sym (diff_zero b.x a.x z.0)) (sym (diff_zero b.y a.y z.1))))
    go (inr h) = h

-- ---- a point of the segment stands from 0 to the length. The ends are A and B, the point is C
pub along_low : (z a b : Point) → On z a b → Nonneg (along a b z)
along_low z a b o =
    by_ring (env4 a b z z) Nonneg (O :- DotE C A B :+ DotE A C C) (DotE A C B) refl
    (nonneg_add (le_sub (on_dot o)) (dot_nonneg a z))

pub along_high : (z a b : Point) → On z a b → along a b z ≤ℤ len2 a b
along_high z a b o =
    sub_le (by_ring (env4 a b z z) Nonneg (O :- DotE C A B :+ DotE C B B) (DotE A B B :- DotE A C B) refl
    (nonneg_add (le_sub (on_dot o)) (dot_nonneg z b)))

-- ---- two points of the line: the way between them is told by their places. The points are C and D
module _ (i j : Point) where
  gap_x : (z w : Point) → turn_of i j z ≡ pos 0 → turn_of i j w ≡ pos 0 →
      len2 i j *ℤ (z.x -ℤ w.x) ≡ (along i j z -ℤ along i j w) *ℤ (j.x -ℤ i.x)
  gap_x z w e f =
      ring2 (env4 i j z w) (DotE A B B :* (C.x :- D.x)) ((DotE A C B :- DotE A D B) :* (B.x :- A.x))
      (neg (B.y :- A.y)) (TurnE A B C) O (B.y :- A.y) (TurnE A B D) O e f refl

  gap_y : (z w : Point) → turn_of i j z ≡ pos 0 → turn_of i j w ≡ pos 0 →
      len2 i j *ℤ (z.y -ℤ w.y) ≡ (along i j z -ℤ along i j w) *ℤ (j.y -ℤ i.y)
  gap_y z w e f =
      ring2 (env4 i j z w) (DotE A B B :* (C.y :- D.y)) ((DotE A C B :- DotE A D B) :* (B.y :- A.y))
      (B.x :- A.x) (TurnE A B C) O (neg (B.x :- A.x)) (TurnE A B D) O e f refl

  -- from the start of the segment
  pub on_x : (w : Point) → turn_of i j w ≡ pos 0 → len2 i j *ℤ (w.x -ℤ i.x) ≡ along i j w *ℤ (j.x -ℤ i.x)
  on_x w e =
      ring1 (env4 i j w w) (DotE A B B :* (C.x :- A.x)) (DotE A C B :* (B.x :- A.x)) (neg (B.y :- A.y))
      (TurnE A B C) O e refl

  pub on_y : (w : Point) → turn_of i j w ≡ pos 0 → len2 i j *ℤ (w.y -ℤ i.y) ≡ along i j w *ℤ (j.y -ℤ i.y)
  on_y w e =
      ring1 (env4 i j w w) (DotE A B B :* (C.y :- A.y)) (DotE A C B :* (B.y :- A.y)) (B.x :- A.x)
      (TurnE A B C) O e refl

  -- two at one place are one point
  module _ (n+ : Positive (len2 i j)) (z w : Point) (ez : turn_of i j z ≡ pos 0) (ew : turn_of i j w ≡ pos 0)
      (e : along i j w ≡ along i j z) where
    one : (s t g : ℤ) → len2 i j *ℤ (s -ℤ t) ≡ (along i j z -ℤ along i j w) *ℤ g → s ≡ t
    one s t g h =
        diff_zero s t (zero_cancel n+ (h ∙
        ring1 (along i j z ∷ along i j w ∷ g ∷ []) ((v 0 :- v 1) :* v 2) O (neg (v 2)) (v 1) (v 0) e refl))

    pub same_x : z.x ≡ w.x
    same_x = one z.x w.x (j.x -ℤ i.x) (gap_x z w ez ew)

    pub same_y : z.y ≡ w.y
    same_y = one z.y w.y (j.y -ℤ i.y) (gap_y z w ez ew)

-- ---- a point of the line between two others is on the segment that they make
ratio : (n z b s t g : ℤ) → Positive n → n *ℤ z ≡ s *ℤ g → n *ℤ b ≡ t *ℤ g → t *ℤ z ≡ s *ℤ b
ratio n z b s t g h e f =
    diff_zero (t *ℤ z) (s *ℤ b) (zero_cancel h
    (ring2 (n ∷ z ∷ b ∷ s ∷ t ∷ g ∷ []) (v 0 :* (v 4 :* v 1 :- v 3 :* v 2)) O (v 4) (v 0 :* v 1) (v 3 :* v 5)
    (neg (v 3)) (v 0 :* v 2) (v 4 :* v 5) e f refl))

pub between : (i j z a b : Point) → Positive (len2 i j) →
    turn_of i j z ≡ pos 0 → turn_of i j a ≡ pos 0 → turn_of i j b ≡ pos 0 →
    along i j a ≤ℤ along i j z → along i j z ≤ℤ along i j b → along i j a <ℤ along i j b → On z a b
between i j z a b n+ ez ea eb az zb ab =
    let m = along i j z -ℤ along i j a in
    let k = along i j b -ℤ along i j a in
    on_of (record {
      m = m;
      k = k;
      k+ = lt_sub ab;
      m0 = le_sub az;
      m1 =
          sub_le (by_ring (along i j z ∷ along i j a ∷ along i j b ∷ []) Nonneg (v 2 :- v 0)
          (v 2 :- v 1 :- (v 0 :- v 1)) refl (le_sub zb));
      fx =
          ratio (len2 i j) (z.x -ℤ a.x) (b.x -ℤ a.x) m k (j.x -ℤ i.x) n+ (gap_x i j z a ez ea)
          (gap_x i j b a eb ea);
      fy =
          ratio (len2 i j) (z.y -ℤ a.y) (b.y -ℤ a.y) m k (j.y -ℤ i.y) n+ (gap_y i j z a ez ea)
          (gap_y i j b a eb ea);
    })

-- and from 0 to the length it is on the whole one
pub on_along : (z i j : Point) → Positive (len2 i j) → turn_of i j z ≡ pos 0 → Nonneg (along i j z) →
    along i j z ≤ℤ len2 i j → On z i j
on_along z i j n+ e h k =
    on_of (record { m = along i j z; k = len2 i j; k+ = n+; m0 = h; m1 = k; fx = on_x i j z e; fy = on_y i j z e })
