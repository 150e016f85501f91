-- A whole-number rule on drawings: the moved drawing has as many corners and is simple where the drawing is and only
-- there, its doubled area is multiplied by ad-bc, so it keeps its sign, and the same corners see each other. Nothing
-- is said of the coordinates' limits: a rule may lead out of them.
use Rattle.std.specs.Prelude.{◌≡◌, refl, List, [], ◌∷◌, ◌↔◌, ℕ, zero, suc, ◌+◌, ◌*◌, ◌/◌, ◌<◌, ℤ, pos, ◌+ℤ◌, ◌-ℤ◌, ◌*ℤ◌, length, get_or, ◌<ℤ◌}
use Rattle.std.proofs.Common.{sym, ◌∙◌, ap, ap₂, subst, arith}
use Rattle.whole.specs.Ring.{E, v, con, ◌:+◌, ◌:-◌, ◌:*◌, ring}
use Rattle.outline.specs.Drawing.{Point, corner, corners, next, Simple, Sees, side_area, area_to, doubled_area}
use Rattle.outline.specs.Round.{next_inner, next_last, next_below}
use Rattle.demands.specs.Partners.{Keeps, keeps_same, Partners, partners_simple, partners_sees}
use Rattle.demands.specs.Entered.{Rule, move}
use Rattle.demands.specs.MovedPoints.{factor, image, numbers, factor_of, image_x, image_y}
use Rattle.demands.specs.MovedPoints.{image_apart, shared_moved, only_moved, inside_moved, above_kept}

module _ (t : Rule) where
  pub length_moved : (d : List ℤ) → length (move t d) ≡ length d
  length_moved [] = refl
  length_moved (x ∷ []) = refl
  length_moved (x ∷ (y ∷ l)) = ap (λ n. suc (suc n)) (length_moved l)

  pub corners_moved : (d : List ℤ) → corners (move t d) ≡ corners d
  corners_moved d = ap (λ m. m / 2) (length_moved d)

  pub corner_moved : (d : List ℤ) (i : ℕ) → i < corners d → corner (move t d) i ≡ image t (corner d i)
  corner_moved [] i h = absurd (omega arith)
  corner_moved (x ∷ []) i h = absurd (omega arith)
  corner_moved (x ∷ (y ∷ l)) zero h = refl
  corner_moved (x ∷ (y ∷ l)) (suc i) h =
      later _ _ (move t l) ∙ corner_moved l i (omega arith) ∙ ap (image t) (sym (later x y l))
    where
      later : (x y : ℤ) (l : List ℤ) → corner (x ∷ (y ∷ l)) (suc i) ≡ corner l i
      later x y l =
          let e : 2 * suc i ≡ suc (suc (2 * i)) = omega arith in
          let g : 2 * suc i + 1 ≡ suc (suc (2 * i + 1)) = omega arith in
          λ k. record { x = get_or (x ∷ (y ∷ l)) (e k) (pos 0); y = get_or (x ∷ (y ∷ l)) (g k) (pos 0) }

  -- ---- the moved drawing is a partner of the drawing, and the drawing of it
  to_image : Keeps (λ p p'. image t p ≡ p')
  to_image = record {
    apart = λ h g e. image_apart t (h ∙ e ∙ sym g);
    no_more_shared = λ {a} {b} {c} {d} h g k l s. (shared_moved t a b c d).1 (keeps_same.no_more_shared h g k l s);
    only = λ {e} {a} {b} {c} {d} o h g k l s. keeps_same.only o h g k l ((only_moved t e a b c d).0 s);
    inside = λ {p} {i} {q} {j} h g k l s. keeps_same.inside h g k l ((inside_moved t p i q j).0 s);
  }

  from_image : Keeps (λ p p'. image t p' ≡ p)
  from_image = record {
    apart = λ h g e. sym h ∙ ap (image t) e ∙ g;
    no_more_shared = λ {a' = a} {b' = b} {c' = c} {d' = d} h g k l s.
        keeps_same.no_more_shared (sym h) (sym g) (sym k) (sym l) ((shared_moved t a b c d).0 s);
    only = λ {e' = e} {a' = a} {b' = b} {c' = c} {d' = d} o h g k l s.
        (only_moved t e a b c d).1 (keeps_same.only (sym o) (sym h) (sym g) (sym k) (sym l) s);
    inside = λ {p' = p} {i' = i} {q' = q} {j' = j} h g k l s.
        (inside_moved t p i q j).1 (keeps_same.inside (sym h) (sym g) (sym k) (sym l) s);
  }

  module _ (d : List ℤ) where
    on : Partners (λ p p'. image t p ≡ p') (λ i. i) d (move t d)
    on = record {
      keeps = to_image;
      many = corners_moved d;
      below = λ i h. h;
      one_to_one = λ i j h g e. e;
      round = λ i h. refl;
      tied = λ i h. sym (corner_moved d i h);
    }

    back : Partners (λ p p'. image t p' ≡ p) (λ i. i) (move t d) d
    back = record {
      keeps = from_image;
      many = sym (corners_moved d);
      below = λ i h. h;
      one_to_one = λ i j h g e. e;
      round = λ i h. refl;
      tied = λ i h. sym (corner_moved d i (subst (λ m. i < m) (corners_moved d) h));
    }

    pub simple_moved : Simple d ↔ Simple (move t d)
    simple_moved = (partners_simple _ _ d (move t d) on, partners_simple _ _ (move t d) d back)

    pub sees_moved : (i j : ℕ) → i < corners d → j < corners d → Sees d i j ↔ Sees (move t d) i j
    sees_moved i j h g = (
      partners_sees _ _ d (move t d) on i j h g,
      partners_sees _ _ (move t d) d back i j (subst (λ m. i < m) (sym (corners_moved d)) h)
          (subst (λ m. j < m) (sym (corners_moved d)) g),
    )

  -- ---- the doubled area: what e and f add to a side's share is the difference of one number between its ends, and
  -- round the outline these differences add up to nothing
  abbrev share : Point → Point → ℤ
  share p q = p.x *ℤ q.y -ℤ q.x *ℤ p.y

  abbrev drift : Point → ℤ
  drift p = t.e *ℤ (t.c *ℤ p.x +ℤ t.d *ℤ p.y) -ℤ t.f *ℤ (t.a *ℤ p.x +ℤ t.b *ℤ p.y)

  share_moved : (p q : Point) → share (image t p) (image t q) ≡ factor t *ℤ share p q +ℤ (drift q -ℤ drift p)
  share_moved p q =
      ring (numbers t (p.x ∷ p.y ∷ q.x ∷ q.y ∷ []))
      (image_x (v 6) (v 7) :* image_y (v 8) (v 9) :- image_x (v 8) (v 9) :* image_y (v 6) (v 7))
      (factor_of :* (v 6 :* v 9 :- v 8 :* v 7) :+ (adds (v 8) (v 9) :- adds (v 6) (v 7))) refl
    where
      adds : E → E → E
      adds x y = v 4 :* (v 2 :* x :+ v 3 :* y) :- v 5 :* (v 0 :* x :+ v 1 :* y)

  module _ (d : List ℤ) where
    abbrev from_first : ℕ → ℤ
    from_first k = drift (corner d k) -ℤ drift (corner d 0)

    side_more : (k : ℕ) → k < corners d → area_to (move t d) k ≡ factor t *ℤ area_to d k +ℤ from_first k →
        area_to (move t d) (suc k) ≡ factor t *ℤ area_to d (suc k) +ℤ from_first (next (corners d) k)
    side_more k h e =
        ap₂ ◌+ℤ◌ e side
        ∙ ring (factor t ∷ area_to d k ∷ side_area d k ∷ drift first ∷ drift here ∷ drift there ∷ [])
        (v 0 :* v 1 :+ (v 4 :- v 3) :+ (v 0 :* v 2 :+ (v 5 :- v 4))) (v 0 :* (v 1 :+ v 2) :+ (v 5 :- v 3)) refl
      where
        first : Point
        first = corner d 0

        here : Point
        here = corner d k

        there : Point
        there = corner d (next (corners d) k)

        side : side_area (move t d) k ≡ factor t *ℤ side_area d k +ℤ (drift there -ℤ drift here)
        side =
            ap₂ share (corner_moved d k h)
            (ap (λ m. corner (move t d) (next m k)) (corners_moved d)
            ∙ corner_moved d (next (corners d) k) (next_below (corners d) k h))
            ∙ share_moved here there

    area_so_far : (k : ℕ) → k < corners d → area_to (move t d) k ≡ factor t *ℤ area_to d k +ℤ from_first k
    area_so_far zero h =
        ring (factor t ∷ drift (corner d 0) ∷ []) (con (pos 0)) (v 0 :* con (pos 0) :+ (v 1 :- v 1)) refl
    area_so_far (suc k) h =
        side_more k (omega arith) (area_so_far k (omega arith))
        ∙ ap (λ m. factor t *ℤ area_to d (suc k) +ℤ from_first m) (next_inner (corners d) k h)

    pub area_moved : doubled_area (move t d) ≡ factor t *ℤ doubled_area d
    area_moved = ap (area_to (move t d)) (corners_moved d) ∙ round (corners d) refl
      where
        round : (m : ℕ) → corners d ≡ m → area_to (move t d) m ≡ factor t *ℤ area_to d m
        round zero e = ring (factor t ∷ []) (con (pos 0)) (v 0 :* con (pos 0)) refl
        round (suc m) e =
            side_more m (omega arith) (area_so_far m (omega arith))
            ∙ ap (λ k. factor t *ℤ area_to d (suc m) +ℤ from_first k) (next_last (corners d) m (sym e))
            ∙ ring (factor t ∷ area_to d (suc m) ∷ drift (corner d 0) ∷ [])
            (v 0 :* v 1 :+ (v 2 :- v 2)) (v 0 :* v 1) refl

    pub anticlockwise_moved : (pos 0 <ℤ doubled_area d) ↔ (pos 0 <ℤ doubled_area (move t d))
    anticlockwise_moved = above_kept t area_moved
