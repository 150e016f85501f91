-- The point W that a side ab and a segment IJ share, where a lies strictly right of IJ and b strictly left. In a
-- drawing r times as large it is a pair of whole numbers. It is an inner point of the side, so on a simple drawing it
-- is on no other side and not a corner, and the side runs through.
--
--             b
--      I ----- W ------ J
--               a
use Rattle.std.specs.Prelude.{◌≡◌, refl, ◌⊎◌, List, [], ◌∷◌, ℤ, pos, ◌+ℤ◌, ◌-ℤ◌, ◌*ℤ◌}
use Rattle.std.proofs.Common.{sym, subst, inl, inr}
use Rattle.std.specs.Int.Signed.{<ℤ_irrefl}
use Rattle.whole.specs.Ring.{E, v, ◌:+◌, ◌:-◌, ◌:*◌, neg, ring, ring1, ring2, by_ring}
use Rattle.whole.specs.Order.{Nonneg, Positive, nonneg_pos, nonneg_mul, positive_nonneg, positive_add}
use Rattle.whole.specs.Order.{positive_mul, positive_cancel, zero_cancel, diff_zero, le_sub, sub_le}
use Rattle.outline.specs.Drawing.{Point, Shared, turn_of}
use Rattle.outline.specs.Spell.{PointE, A, B, C, D, P, Q, R, O, I, env, OutE, TurnE, At, ab_x, ab_y, cd_x, cd_y}
use Rattle.outline.specs.Placed.{On, Frac, frac_of}
use Rattle.outline.specs.Parity.{out}
use Rattle.outline.specs.Scale.{turn_scale}
use Rattle.outline.specs.Through.{RunsThrough}
use Rattle.outline.specs.SharedPoint.{point}
use Rattle.outline.specs.EveryPoint.{AtEnd}

-- I, J, a and b are A to D, the point's places are P, Q and R, and the point is
abbrev W : PointE
W = record { x = ab_x; y = ab_y }

-- the point's turn from IJ, weighed by its place on the side
abbrev weighed : E
weighed = (R :- Q) :* TurnE A B C :+ Q :* TurnE A B D

module _ (i j a b : Point) (right : Positive (turn_of j i a)) (left : Positive (turn_of i j b))
    (s : Shared i j a b) where
  abbrev ρ : List ℤ
  ρ = env i j a b s.p s.q s.r

  -- ---- inner to the side
  turns : (s.r -ℤ s.q) *ℤ turn_of i j a +ℤ s.q *ℤ turn_of i j b ≡ pos 0
  turns = ring2 ρ weighed O (B.y :- A.y) ab_x cd_x (neg (B.x :- A.x)) ab_y cd_y s.same_x s.same_y refl

  not_start : ¬ (s.q ≡ pos 0)
  not_start e =
      <ℤ_irrefl (subst Positive (zero_cancel s.r_above
      (ring2 ρ (R :* TurnE B A C) O (neg I) weighed O (TurnE A B D :- TurnE A B C) Q O turns e refl)) right)

  not_end : ¬ (s.q ≡ s.r)
  not_end e =
      <ℤ_irrefl (subst Positive (zero_cancel s.r_above
      (ring2 ρ (R :* TurnE A B D) O I weighed O (TurnE A B C :- TurnE A B D) Q R turns e refl)) left)

  ends : ¬ ((s.q ≡ pos 0) ⊎ (s.q ≡ s.r))
  ends (inl e) = not_start e
  ends (inr e) = not_end e

  -- in any scale
  inner : (k : ℤ) → Positive k → ¬ ((s.q *ℤ k ≡ pos 0) ⊎ (s.q *ℤ k ≡ s.r *ℤ k))
  inner k h (inl e) = not_start (zero_cancel h (ring1 (s.q ∷ k ∷ []) (v 1 :* v 0) O I (v 0 :* v 1) O e refl))
  inner k h (inr e) =
      not_end (diff_zero s.q s.r (zero_cancel h
      (ring1 (s.q ∷ s.r ∷ k ∷ []) (v 2 :* (v 0 :- v 1)) O I (v 0 :* v 2) (v 1 :* v 2) e refl)))

  -- ---- the point, r times as far out, on both lines
  abbrev crossing : Point
  crossing = point i j s.p s.r

  pub on_segment : turn_of (out s.r i) (out s.r j) crossing ≡ pos 0
  on_segment = ring ρ (TurnE (OutE R A) (OutE R B) W) O refl

  pub on_side : turn_of (out s.r a) (out s.r b) crossing ≡ pos 0
  on_side =
      ring2 ρ (TurnE (OutE R C) (OutE R D) W) O (neg (R :* (D.y :- C.y))) ab_x cd_x (R :* (D.x :- C.x)) ab_y cd_y
      s.same_x s.same_y refl

  -- ---- inner to IJ too: the side runs through
  abbrev span_e : E
  span_e = TurnE B A C :+ TurnE A B D

  span+ : Positive (turn_of j i a +ℤ turn_of i j b)
  span+ = positive_add right (positive_nonneg left)

  at_i : s.p *ℤ (turn_of j i a +ℤ turn_of i j b) ≡ s.r *ℤ turn_of a b i
  at_i =
      ring2 ρ (P :* span_e) (R :* TurnE C D A) (D.y :- C.y) ab_x cd_x (neg (D.x :- C.x)) ab_y cd_y
      s.same_x s.same_y refl

  at_j : (s.r -ℤ s.p) *ℤ (turn_of j i a +ℤ turn_of i j b) ≡ s.r *ℤ turn_of b a j
  at_j =
      ring2 ρ ((R :- P) :* span_e) (R :* TurnE D C B) (neg (D.y :- C.y)) ab_x cd_x (D.x :- C.x) ab_y cd_y
      s.same_x s.same_y refl

  pub runs_through : Positive s.p → Positive (s.r -ℤ s.p) →
      RunsThrough (out s.r i) (out s.r j) (out s.r a) (out s.r b)
  runs_through p+ p- =
      record {
        t1 = up j i a right;
        t2 = up i j b left;
        t3 = up a b i (cancel (subst Positive at_i (positive_mul p+ span+)));
        t4 = up b a j (cancel (subst Positive at_j (positive_mul p- span+)));
      }
    where
      cancel : {t : ℤ} → Positive (s.r *ℤ t) → Positive t
      cancel h = positive_cancel (positive_nonneg s.r_above) h

      up : (x y z : Point) → Positive (turn_of x y z) → Positive (turn_of (out s.r x) (out s.r y) (out s.r z))
      up x y z h =
          subst Positive (sym (turn_scale s.r x y z)) (positive_mul s.r_above (positive_mul s.r_above h))

  -- ---- on another side ce, or at an end of IJ that a side ce begins at, it would be an inner point of ab that ab and
  -- ce share. c is 11, 12 and e 13, 14; its place on ce, m / k, is 15, 16
  abbrev π : Point → Point → ℤ → ℤ → List ℤ
  π c e m k =
      i.x ∷ i.y ∷ j.x ∷ j.y ∷ a.x ∷ a.y ∷ b.x ∷ b.y ∷ s.p ∷ s.q ∷ s.r
      ∷ c.x ∷ c.y ∷ e.x ∷ e.y ∷ m ∷ k ∷ []

  with_side : (c e : Point) (f : Frac crossing (out s.r c) (out s.r e)) → Shared a b c e
  with_side c e f =
      record {
        p = s.q *ℤ f.k;
        q = f.m *ℤ s.r;
        r = s.r *ℤ f.k;
        r_above = positive_mul s.r_above f.k+;
        p_from = nonneg_mul s.q_from (positive_nonneg f.k+);
        p_to =
            sub_le (by_ring (s.r ∷ s.q ∷ f.k ∷ []) Nonneg ((v 0 :- v 1) :* v 2) (v 0 :* v 2 :- v 1 :* v 2) refl
            (nonneg_mul (le_sub s.q_to) (positive_nonneg f.k+)));
        q_from = nonneg_mul f.m0 (positive_nonneg s.r_above);
        q_to =
            sub_le (by_ring (s.r ∷ f.m ∷ f.k ∷ []) Nonneg (v 0 :* (v 2 :- v 1)) (v 0 :* v 2 :- v 1 :* v 0) refl
            (nonneg_mul (positive_nonneg s.r_above) (le_sub f.m1)));
        same_x =
            ring2 (π c e f.m f.k) (At (R :* v 16) C.x (Q :* v 16) D.x)
            (At (R :* v 16) (v 11) (v 15 :* R) (v 13)) (neg (v 16)) ab_x cd_x I (v 16 :* (ab_x :- R :* v 11))
            (v 15 :* (R :* v 13 :- R :* v 11)) s.same_x f.fx refl;
        same_y =
            ring2 (π c e f.m f.k) (At (R :* v 16) C.y (Q :* v 16) D.y)
            (At (R :* v 16) (v 12) (v 15 :* R) (v 14)) (neg (v 16)) ab_y cd_y I (v 16 :* (ab_y :- R :* v 12))
            (v 15 :* (R :* v 14 :- R :* v 12)) s.same_y f.fy refl;
      }

  pub off_side : (c e : Point) → AtEnd a b c e → ¬ On crossing (out s.r c) (out s.r e)
  unfolding with_side
  off_side c e only o =
      let f = frac_of crossing (out s.r c) (out s.r e) o in
      inner f.k f.k+ (only (with_side c e f))

  -- ab and a segment that begins at c, where c is the point
  with_start : (c e : Point) → s.r *ℤ c.x ≡ s.r *ℤ a.x +ℤ s.q *ℤ (b.x -ℤ a.x) →
      s.r *ℤ c.y ≡ s.r *ℤ a.y +ℤ s.q *ℤ (b.y -ℤ a.y) → Shared a b c e
  with_start c e ex ey =
      record {
        p = s.q;
        q = pos 0;
        r = s.r;
        r_above = s.r_above;
        p_from = s.q_from;
        p_to = s.q_to;
        q_from = nonneg_pos 0;
        q_to = positive_nonneg s.r_above;
        same_x = ring1 (π c e (pos 0) (pos 0)) cd_x (At R (v 11) O (v 13)) (neg I) (R :* v 11) cd_x ex refl;
        same_y = ring1 (π c e (pos 0) (pos 0)) cd_y (At R (v 12) O (v 14)) (neg I) (R :* v 12) cd_y ey refl;
      }

  pub not_first : (e : Point) → AtEnd a b i e → ¬ (s.p ≡ pos 0)
  unfolding with_start
  not_first e only h =
      ends (only (with_start i e
      (ring2 ρ (R :* A.x) cd_x I ab_x cd_x (neg (B.x :- A.x)) P O s.same_x h refl)
      (ring2 ρ (R :* A.y) cd_y I ab_y cd_y (neg (B.y :- A.y)) P O s.same_y h refl)))

  pub not_last : (e : Point) → AtEnd a b j e → ¬ (s.r -ℤ s.p ≡ pos 0)
  unfolding with_start
  not_last e only h =
      ends (only (with_start j e
      (ring2 ρ (R :* B.x) cd_x I ab_x cd_x (B.x :- A.x) (R :- P) O s.same_x h refl)
      (ring2 ρ (R :* B.y) cd_y I ab_y cd_y (B.y :- A.y) (R :- P) O s.same_y h refl)))
