-- Every whole-number rule with ad-bc > 0 keeps what lies in or on an outline. A rule with c > 0 is, c times as large,
-- a rule that keeps heights in their order, a quarter turn, and another such rule; one with c = 0 and a > 0 keeps
-- heights itself; and for the others -t is one of these, and two quarter turns make t of it.
use Rattle.std.specs.Prelude.{◌≡◌, refl, List, [], ◌∷◌, ℕ, ℤ, pos, neg_ℤ, ◌+ℤ◌, ◌*ℤ◌}
use Rattle.std.proofs.Common.{ap, subst}
use Rattle.std.proofs.Math.Path.{fun_ext}
use Rattle.std.specs.Int.Signed.{<ℤ_irrefl}
use Rattle.whole.specs.Ring.{E, v, con, ◌:+◌, ◌:-◌, ◌:*◌, neg, ring, ring1, ring2, by_ring}
use Rattle.whole.specs.Order.{Positive, positive_pos, positive_nonneg, positive_mul, positive_cancel}
use Rattle.whole.specs.Order.{Sign, plus, nought, minus, sign}
use Rattle.outline.specs.Drawing.{Point}
use Rattle.outline.specs.Parity.{InOn, out, large}
use Rattle.outline.specs.Scale.{in_back}
use Rattle.demands.specs.Entered.{Rule}
use Rattle.demands.specs.MovedPoints.{factor, image, numbers, factor_of, image_x, image_y}
use Rattle.demands.specs.QuarterTurn.{quarter, in_quarter}
use Rattle.demands.specs.LevelRule.{in_level}

-- ---- -t, and two quarter turns
abbrev opposite : Rule → Rule
opposite t = record {
  a = neg_ℤ t.a;
  b = neg_ℤ t.b;
  c = neg_ℤ t.c;
  d = neg_ℤ t.d;
  e = neg_ℤ t.e;
  f = neg_ℤ t.f;
  above = by_ring (numbers t []) Positive factor_of (neg (v 0) :* neg (v 3) :- neg (v 1) :* neg (v 2)) refl t.above;
}

half_turn : (t : Rule) (p : Point) → quarter (quarter (image (opposite t) p)) ≡ image t p
half_turn t p = λ i. record { x = axis t.a t.b t.e i; y = axis t.c t.d t.f i }
  where
    axis : (a b e : ℤ) → neg_ℤ (neg_ℤ a *ℤ p.x +ℤ neg_ℤ b *ℤ p.y +ℤ neg_ℤ e) ≡ a *ℤ p.x +ℤ b *ℤ p.y +ℤ e
    axis a b e =
        ring (a ∷ b ∷ e ∷ p.x ∷ p.y ∷ []) (neg (neg (v 0) :* v 3 :+ neg (v 1) :* v 4 :+ neg (v 2)))
        (v 0 :* v 3 :+ v 1 :* v 4 :+ v 2) refl

-- ---- the steps of a rule with c > 0
module _ (t : Rule) (c+ : Positive t.c) where
  -- (x,y) to (cx+dy, y)
  abbrev first_step : Rule
  first_step = record {
    a = t.c;
    b = t.d;
    c = pos 0;
    d = pos 1;
    e = pos 0;
    f = pos 0;
    above = by_ring (t.c ∷ t.d ∷ []) Positive (v 0) (v 0 :* con (pos 1) :- v 1 :* con (pos 0)) refl c+;
  }

  -- after the quarter turn
  abbrev last_step : Rule
  last_step = record {
    a = factor t;
    b = t.a;
    c = pos 0;
    d = t.c;
    e = t.c *ℤ t.e;
    f = t.c *ℤ t.f;
    above =
        by_ring (numbers t []) Positive (factor_of :* v 2) (factor_of :* v 2 :- v 0 :* con (pos 0)) refl
        (positive_mul t.above c+);
  }

  steps : (p : Point) → image last_step (quarter (image first_step p)) ≡ out t.c (image t p)
  steps p = λ i. record {
    x = ring ρ (factor_of :* neg there :+ v 0 :* here :+ v 2 :* v 4) (v 2 :* image_x (v 6) (v 7)) refl i;
    y = ring ρ (con (pos 0) :* neg there :+ v 2 :* here :+ v 2 :* v 5) (v 2 :* image_y (v 6) (v 7)) refl i;
  }
    where
      ρ : List ℤ
      ρ = numbers t (p.x ∷ p.y ∷ [])

      here : E
      here = v 2 :* v 6 :+ v 3 :* v 7 :+ con (pos 0)

      there : E
      there = con (pos 0) :* v 6 :+ con (pos 1) :* v 7 :+ con (pos 0)

-- ---- every rule
module _ (c : ℕ → Point) (n : ℕ) (closed : c n ≡ c 0) (z : Point) (i : InOn c n z) where
  abbrev Kept : Rule → Type 0
  Kept t = InOn (λ m. image t (c m)) n (image t z)

  by_opposite : (t : Rule) → Kept (opposite t) → Kept t
  by_opposite t k =
      subst (λ w. InOn (λ m. image t (c m)) n w) (half_turn t z)
      (subst (λ d. InOn d n (quarter (quarter (image (opposite t) z)))) (fun_ext (λ m. half_turn t (c m)))
      (in_quarter (λ m. quarter (image (opposite t) (c m))) n (ap (λ p. quarter (image (opposite t) p)) closed)
      (quarter (image (opposite t) z))
      (in_quarter (λ m. image (opposite t) (c m)) n (ap (image (opposite t)) closed) (image (opposite t) z) k)))

  by_steps : (t : Rule) → Positive t.c → Kept t
  by_steps t c+ =
      in_back (λ m. image t (c m)) n t.c (image t z) c+
      (subst (λ w. InOn (large t.c (λ m. image t (c m))) n w) (steps t c+ z)
      (subst (λ d. InOn d n (image last (quarter (image first z)))) (fun_ext (λ m. steps t c+ (c m))) three))
    where
      first : Rule
      first = first_step t c+

      last : Rule
      last = last_step t c+

      one : InOn (λ m. image first (c m)) n (image first z)
      one = in_level first refl (positive_pos 0) c n z i

      two : InOn (λ m. quarter (image first (c m))) n (quarter (image first z))
      two = in_quarter (λ m. image first (c m)) n (ap (image first) closed) (image first z) one

      three : InOn (λ m. image last (quarter (image first (c m)))) n (image last (quarter (image first z)))
      three = in_level last refl c+ (λ m. quarter (image first (c m))) n (quarter (image first z)) two

  by_level : (t : Rule) → t.c ≡ pos 0 → Positive t.a → Kept t
  by_level t level a+ = in_level t level (positive_cancel (positive_nonneg a+) tall) c n z i
    where
      tall : Positive (t.a *ℤ t.d)
      tall =
          subst Positive
          (ring1 (numbers t []) factor_of (v 0 :* v 3) (neg (v 1)) (v 2) (con (pos 0)) level refl) t.above

  -- a and c cannot both be nothing
  pub in_moved : (t : Rule) → InOn (λ m. image t (c m)) n (image t z)
  in_moved t = go (sign t.c) (sign t.a)
    where
      go : Sign t.c → Sign t.a → Kept t
      go (plus h) k = by_steps t h
      go (minus h) k = by_opposite t (by_steps (opposite t) h)
      go (nought h) (plus k) = by_level t h k
      go (nought h) (minus k) = by_opposite t (by_level (opposite t) (ap neg_ℤ h) k)
      go (nought h) (nought k) =
          absurd (<ℤ_irrefl (subst Positive
          (ring2 (numbers t []) factor_of (con (pos 0))
          (v 3) (v 0) (con (pos 0)) (neg (v 1)) (v 2) (con (pos 0)) k h refl) t.above))
