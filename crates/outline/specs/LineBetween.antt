-- A straight line that has a point W strictly on one side, and both ends of a segment ab that does not hold W not on
-- that side. What lies on that side shares nothing with ab.
--
--        W                     a ------- b | W
--      ------------
--        a ------ b
use Rattle.std.specs.Prelude.{◌≡◌, refl, ◌⊎◌, List, [], ◌∷◌, ℤ, pos, neg_ℤ, ◌+ℤ◌, ◌-ℤ◌, ◌*ℤ◌, ◌≤ℤ◌, ◌<ℤ◌}
use Rattle.std.proofs.Common.{subst, inl, inr}
use Rattle.whole.specs.Ring.{E, v, ◌:+◌, ◌:-◌, ◌:*◌, neg, ring2, by_ring}
use Rattle.whole.specs.Order.{Nonneg, Positive, nonneg_pos, nonneg_add, nonneg_mul, positive_nonneg, positive_add}
use Rattle.whole.specs.Order.{positive_pred, positive_not, le_sub, lt_sub, ≤ℤ_total, Sign, plus, nought, minus, sign}
use Rattle.outline.specs.Drawing.{Point, Shared, turn_of}
use Rattle.outline.specs.Spell.{PointE, A, B, C, D, P, Q, R, O, I, env4, TurnE, DotE, ab_x, ab_y, cd_x, cd_y}
use Rattle.outline.specs.Segments.{turn_back}
use Rattle.outline.specs.Placed.{On}
use Rattle.outline.specs.Along.{len2, along, on_along}

-- how far z lies off the line through e whose normal is (u, w)
abbrev pub off_line : ℤ → ℤ → Point → Point → ℤ
off_line u w e z = u *ℤ (z.x -ℤ e.x) +ℤ w *ℤ (z.y -ℤ e.y)

abbrev pub off_line_e : E → E → PointE → PointE → E
off_line_e u w e z = u :* (z.x :- e.x) :+ w :* (z.y :- e.y)

pub record LineBetween (W a b : Point) : Type 0 where
  pub u : ℤ
  pub w : ℤ
  pub e : Point
  pub ahead : Positive (off_line u w e W)
  pub a_behind : Nonneg (neg_ℤ (off_line u w e a))
  pub b_behind : Nonneg (neg_ℤ (off_line u w e b))

-- ---- such a line keeps segments apart: the shared point would be ahead and behind
module _ (p q a b : Point) (u w : ℤ) (e : Point) where
  pub kept_apart : Positive (off_line u w e p) → Positive (off_line u w e q) → Nonneg (neg_ℤ (off_line u w e a)) →
      Nonneg (neg_ℤ (off_line u w e b)) → ¬ Shared p q a b
  kept_apart hp hq ha hb s = positive_not ahead behind
    where
      E' : PointE
      E' = record { x = v 13; y = v 14 }

      off_e : PointE → E
      off_e z = off_line_e (v 11) (v 12) E' z

      ρ : List ℤ
      ρ =
          p.x ∷ p.y ∷ q.x ∷ q.y ∷ a.x ∷ a.y ∷ b.x ∷ b.y ∷ s.p ∷ s.q ∷ s.r
          ∷ u ∷ w ∷ e.x ∷ e.y ∷ []

      mean : ℤ
      mean = (s.r -ℤ s.p) *ℤ off_line u w e p +ℤ s.p *ℤ off_line u w e q

      ahead : Positive mean
      ahead =
          by_ring (s.r ∷ s.p ∷ off_line u w e p ∷ off_line u w e q ∷ []) Positive
          (v 0 :+ ((v 0 :- v 1) :* (v 2 :- I) :+ v 1 :* (v 3 :- I))) ((v 0 :- v 1) :* v 2 :+ v 1 :* v 3) refl
          (positive_add s.r_above
          (nonneg_add (nonneg_mul (le_sub s.p_to) (positive_pred hp)) (nonneg_mul s.p_from (positive_pred hq))))

      behind : Nonneg (neg_ℤ mean)
      behind =
          subst Nonneg
          (ring2 ρ ((R :- Q) :* neg (off_e C) :+ Q :* neg (off_e D)) (neg ((R :- P) :* off_e A :+ P :* off_e B))
          (v 11) ab_x cd_x (v 12) ab_y cd_y s.same_x s.same_y refl)
          (nonneg_add (nonneg_mul (le_sub s.q_to) ha) (nonneg_mul s.q_from hb))

-- ---- there is one. a, b and W are A, B and C
module _ (W : Point) where
  swapped : {a b : Point} → LineBetween W b a → LineBetween W a b
  swapped l =
      record { u = l.u; w = l.w; e = l.e; ahead = l.ahead; a_behind = l.b_behind; b_behind = l.a_behind }

  -- W left of ab: the line ab
  from_left : (a b : Point) → Positive (turn_of a b W) → LineBetween W a b
  from_left a b h =
      let ρ = env4 a b W W in
      record {
        u = a.y -ℤ b.y;
        w = b.x -ℤ a.x;
        e = a;
        ahead = by_ring ρ Positive (TurnE A B C) (off_line_e (A.y :- B.y) (B.x :- A.x) A C) refl h;
        a_behind =
            by_ring ρ Nonneg O (neg (off_line_e (A.y :- B.y) (B.x :- A.x) A A)) refl (nonneg_pos 0);
        b_behind =
            by_ring ρ Nonneg O (neg (off_line_e (A.y :- B.y) (B.x :- A.x) A B)) refl (nonneg_pos 0);
      }

  -- W beyond b: the line across ab at b
  from_end : (a b : Point) → Positive (len2 a b) → Positive (off_line (b.x -ℤ a.x) (b.y -ℤ a.y) b W) →
      LineBetween W a b
  from_end a b n+ h =
      let ρ = env4 a b W W in
      record {
        u = b.x -ℤ a.x;
        w = b.y -ℤ a.y;
        e = b;
        ahead = h;
        a_behind =
            by_ring ρ Nonneg (DotE A B B) (neg (off_line_e (B.x :- A.x) (B.y :- A.y) B A)) refl
            (positive_nonneg n+);
        b_behind =
            by_ring ρ Nonneg O (neg (off_line_e (B.x :- A.x) (B.y :- A.y) B B)) refl (nonneg_pos 0);
      }

  pub line_between : (a b : Point) → Positive (len2 a b) → ¬ On W a b → LineBetween W a b
  line_between a b n+ off = go (sign (turn_of a b W))
    where
      ρ : List ℤ
      ρ = env4 a b W W

      in_line : turn_of a b W ≡ pos 0 → (pos 0 ≤ℤ along a b W) ⊎ (along a b W <ℤ pos 0) →
          (along a b W ≤ℤ len2 a b) ⊎ (len2 a b <ℤ along a b W) → LineBetween W a b
      in_line t (inl h) (inl k) = absurd (off (on_along W a b n+ t h k))
      in_line t (inl h) (inr k) =
          from_end a b n+
          (by_ring ρ Positive (DotE A C B :- DotE A B B) (off_line_e (B.x :- A.x) (B.y :- A.y) B C) refl (lt_sub k))
      in_line t (inr h) k =
          swapped (from_end b a (by_ring ρ Positive (DotE A B B) (DotE B A A) refl n+)
          (by_ring ρ Positive (O :- DotE A C B) (off_line_e (A.x :- B.x) (A.y :- B.y) A C) refl (lt_sub h)))

      go : Sign (turn_of a b W) → LineBetween W a b
      go (plus h) = from_left a b h
      go (nought t) = in_line t (≤ℤ_total (pos 0) (along a b W)) (≤ℤ_total (along a b W) (len2 a b))
      go (minus h) = swapped (from_left b a (subst Positive (turn_back a b W) h))
