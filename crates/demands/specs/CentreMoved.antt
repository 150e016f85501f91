-- A centre's sight is kept by every whole-number rule with ad-bc > 0, both ways, in any drawing: the points of a
-- segment go to those of its image, and what lies in or on the outline goes to what lies in or on the outline's.
use Rattle.std.specs.Prelude.{◌≡◌, refl, ◌↔◌, List, [], ◌∷◌, ℕ, ◌≤◌, ◌<◌, ℤ, neg_ℤ, ◌-ℤ◌, ◌*ℤ◌}
use Rattle.std.proofs.Common.{sym, ◌∙◌, ap, subst, subst₂, arith}
use Rattle.std.proofs.Math.Path.{fun_ext}
use Rattle.std.proofs.Math.Logic.{by_cases}
use Rattle.std.proofs.Math.Decide.{dec_lt}
use Rattle.whole.specs.Ring.{E, v, ◌:+◌, ◌:-◌, ◌:*◌, neg, ring, by_ring}
use Rattle.whole.specs.Order.{Positive, positive_mul}
use Rattle.outline.specs.Drawing.{Point, corner, corners}
use Rattle.outline.specs.InOrOn.{CentreSees}
use Rattle.outline.specs.Placed.{On}
use Rattle.outline.specs.Parity.{InOn, out, large}
use Rattle.outline.specs.Scale.{in_back}
use Rattle.outline.specs.EveryPoint.{Sight}
use Rattle.outline.specs.Reading.{round, round_inner, round_closed}
use Rattle.outline.proofs.Reading.{sight_read, sight_said}
use Rattle.demands.specs.Entered.{Rule, move}
use Rattle.demands.specs.MovedPoints.{factor, image, numbers, factor_of, grown_rule, grown_moved}
use Rattle.demands.specs.Moved.{corners_moved, corner_moved}
use Rattle.demands.specs.LevelRule.{on_moved}
use Rattle.demands.specs.RuleKeepsIn.{in_moved}
use Rattle.demands.specs.SameOutline.{sight_same}

-- ---- the way back: ad-bc times as large, for points r times as large
module _ (t : Rule) (r : ℤ) where
  abbrev back : Rule
  back = record {
    a = t.d;
    b = neg_ℤ t.b;
    c = neg_ℤ t.c;
    d = t.a;
    e = t.b *ℤ (r *ℤ t.f) -ℤ t.d *ℤ (r *ℤ t.e);
    f = t.c *ℤ (r *ℤ t.e) -ℤ t.a *ℤ (r *ℤ t.f);
    above = by_ring (numbers t []) Positive factor_of (v 3 :* v 0 :- neg (v 1) :* neg (v 2)) refl t.above;
  }

  -- r is 6, the point 7 and 8
  abbrev with_point : Point → List ℤ
  with_point p = numbers t (r ∷ p.x ∷ p.y ∷ [])

  abbrev back_x : E → E → E
  back_x x y = v 3 :* x :+ neg (v 1) :* y :+ (v 1 :* (v 6 :* v 5) :- v 3 :* (v 6 :* v 4))

  abbrev back_y : E → E → E
  back_y x y = neg (v 2) :* x :+ v 0 :* y :+ (v 2 :* (v 6 :* v 4) :- v 0 :* (v 6 :* v 5))

  there_and_back : (p : Point) → image back (image (grown_rule t r) p) ≡ out (factor t) p
  there_and_back p = λ i. record {
    x = ring (with_point p) (back_x there_x there_y) (factor_of :* v 7) refl i;
    y = ring (with_point p) (back_y there_x there_y) (factor_of :* v 8) refl i;
  }
    where
      there_x : E
      there_x = v 0 :* v 7 :+ v 1 :* v 8 :+ v 6 :* v 4

      there_y : E
      there_y = v 2 :* v 7 :+ v 3 :* v 8 :+ v 6 :* v 5

  back_and_there : (p : Point) → image (grown_rule t (factor t *ℤ r)) (image back p) ≡ out (factor t) p
  back_and_there p = λ i. record {
    x = ring (with_point p)
        (v 0 :* back_x (v 7) (v 8) :+ v 1 :* back_y (v 7) (v 8) :+ factor_of :* v 6 :* v 4) (factor_of :* v 7) refl i;
    y = ring (with_point p)
        (v 2 :* back_x (v 7) (v 8) :+ v 3 :* back_y (v 7) (v 8) :+ factor_of :* v 6 :* v 5) (factor_of :* v 8) refl i;
  }

  back_grown : (p : Point) → image back (out r (image t p)) ≡ out (factor t) (out r p)
  back_grown p = ap (image back) (grown_moved t r p) ∙ there_and_back (out r p)

grown_twice : (k r : ℤ) (p : Point) → out k (out r p) ≡ out (k *ℤ r) p
grown_twice k r p = λ i. record {
  x = ring (k ∷ r ∷ p.x ∷ []) (v 0 :* (v 1 :* v 2)) (v 0 :* v 1 :* v 2) refl i;
  y = ring (k ∷ r ∷ p.y ∷ []) (v 0 :* (v 1 :* v 2)) (v 0 :* v 1 :* v 2) refl i;
}

-- ---- every point of a segment of an outline, and every point of its image
module _ (t : Rule) (c : ℕ → Point) (n : ℕ) (closed : c n ≡ c 0) (a b : Point) where
  -- a point z of the image, r times as large, comes from the point w, and goes back to it
  sight_on : Sight c n a b → Sight (λ m. image t (c m)) n (image t a) (image t b)
  sight_on s z r r+ o = in_back (λ m. out r (image t (c m))) n (factor t) z t.above held
    where
      k : ℤ
      k = factor t *ℤ r

      w : Point
      w = image (back t r) z

      from : (p : Point) → image (back t r) (out r (image t p)) ≡ out (factor t *ℤ r) p
      from p = back_grown t r p ∙ grown_twice (factor t) r p

      on_w : On (image (back t r) z) (out (factor t *ℤ r) a) (out (factor t *ℤ r) b)
      on_w =
          subst₂ (On (image (back t r) z)) (from a) (from b)
          (on_moved (back t r) z (out r (image t a)) (out r (image t b)) o)

      to : (p : Point) →
          image (grown_rule t (factor t *ℤ r)) (out (factor t *ℤ r) p) ≡ out (factor t) (out r (image t p))
      to p = sym (grown_moved t (factor t *ℤ r) p) ∙ sym (grown_twice (factor t) r (image t p))

      held : InOn (large (factor t) (λ m. out r (image t (c m)))) n (out (factor t) z)
      held =
          subst₂ (λ d p. InOn d n p) (fun_ext (λ m. to (c m))) (back_and_there t r z)
          (in_moved (large k c) n (ap (out k) closed) w (s w k (positive_mul t.above r+) on_w) (grown_rule t k))

  sight_back : Sight (λ m. image t (c m)) n (image t a) (image t b) → Sight c n a b
  sight_back s z r r+ o = in_back (large r c) n (factor t) z t.above held
    where
      w : Point
      w = image (grown_rule t r) z

      on_w : On (image (grown_rule t r) z) (out r (image t a)) (out r (image t b))
      on_w =
          subst₂ (On (image (grown_rule t r) z)) (sym (grown_moved t r a)) (sym (grown_moved t r b))
          (on_moved (grown_rule t r) z (out r a) (out r b) o)

      held : InOn (large (factor t) (large r c)) n (out (factor t) z)
      held =
          subst₂ (λ d p. InOn d n p) (fun_ext (λ m. back_grown t r (c m))) (there_and_back t r z)
          (in_moved (λ m. out r (image t (c m))) n (ap (λ p. out r (image t p)) closed) w (s w r r+ on_w) (back t r))

-- ---- and of drawings
module _ (t : Rule) (d : List ℤ) where
  -- corner m of the outline that is moved, where corner n is corner 0
  round_moved : 0 < corners d → (m : ℕ) → m ≤ corners d → image t (round d m) ≡ round (move t d) m
  round_moved some m h = by_cases (dec_lt m (corners d)) (inner m) last
    where
      inner : (k : ℕ) → k < corners d → image t (round d k) ≡ round (move t d) k
      inner k l =
          ap (image t) (round_inner d k l) ∙ sym (corner_moved t d k l)
          ∙ sym (round_inner (move t d) k (subst (λ n. k < n) (sym (corners_moved t d)) l))

      last : ¬ (m < corners d) → image t (round d m) ≡ round (move t d) m
      last l =
          let e : m ≡ corners d = omega arith in
          ap (λ k. image t (round d k)) e ∙ ap (image t) (round_closed d) ∙ inner 0 some
          ∙ sym (ap (round (move t d)) (e ∙ sym (corners_moved t d)) ∙ round_closed (move t d))

  pub centre_moved : (i j : ℕ) → i < corners d → j < corners d → CentreSees d i j ↔ CentreSees (move t d) i j
  centre_moved i j h g = (
    λ s. sight_said (move t d) i j
        (sight_same (λ m. image t (round d m)) (round (move t d)) (corners d) (corners (move t d))
        (image t (corner d i)) (image t (corner d j)) (corner (move t d) i) (corner (move t d) j)
        (sym (corners_moved t d)) (round_moved (omega arith)) (sym (corner_moved t d i h)) (sym (corner_moved t d j g))
        (sight_on t (round d) (corners d) (round_closed d) (corner d i) (corner d j) (sight_read d i j s))),
    λ s. sight_said d i j
        (sight_back t (round d) (corners d) (round_closed d) (corner d i) (corner d j)
        (sight_same (round (move t d)) (λ m. image t (round d m)) (corners (move t d)) (corners d)
        (corner (move t d) i) (corner (move t d) j) (image t (corner d i)) (image t (corner d j))
        (corners_moved t d) (λ m l. sym (round_moved (omega arith) m (subst (λ n. m ≤ n) (corners_moved t d) l)))
        (corner_moved t d i h) (corner_moved t d j g) (sight_read (move t d) i j s))),
  )
