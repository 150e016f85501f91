-- A whole-number rule on points: segments share a point where their images do, Turn is multiplied by ad-bc, so it
-- keeps its sign, and a point is inside an angle where its image is inside the angle's image.
use Rattle.std.specs.Prelude.{◌≡◌, refl, List, [], ◌∷◌, ◌↔◌, ℤ, pos, ◌+ℤ◌, ◌-ℤ◌, ◌*ℤ◌, ◌≤ℤ◌, ◌<ℤ◌}
use Rattle.std.proofs.Common.{sym, ◌∙◌, ap, subst}
use Rattle.std.proofs.Math.Logic.Iff
use Rattle.whole.specs.Ring.{E, v, con, ◌:+◌, ◌:-◌, ◌:*◌, neg, ring, ring1, ring2}
use Rattle.whole.specs.Order.{zero_cancel, positive_nonneg, positive_mul, positive_cancel, nonneg_mul, nonneg_cancel}
use Rattle.outline.specs.Drawing.{Point, Shared, IsAt, SharedOnlyAt, turn_of, InsideAngle}
use Rattle.demands.specs.Entered.{Rule}

-- ---- ad-bc, and where a point goes
abbrev pub factor : Rule → ℤ
factor t = t.a *ℤ t.d -ℤ t.b *ℤ t.c

abbrev pub image : Rule → Point → Point
image t p = record { x = t.a *ℤ p.x +ℤ t.b *ℤ p.y +ℤ t.e; y = t.c *ℤ p.x +ℤ t.d *ℤ p.y +ℤ t.f }

-- ---- for the solver: the rule's numbers are variables 0 to 5, and the rest of the list follows
abbrev pub numbers : Rule → List ℤ → List ℤ
numbers t l = t.a ∷ t.b ∷ t.c ∷ t.d ∷ t.e ∷ t.f ∷ l

abbrev pub factor_of : E
factor_of = v 0 :* v 3 :- v 1 :* v 2

abbrev pub image_x : E → E → E
image_x x y = v 0 :* x :+ v 1 :* y :+ v 4

abbrev pub image_y : E → E → E
image_y x y = v 2 :* x :+ v 3 :* y :+ v 5

-- ---- points with the same image are the same: the adjugate gives the factor times the difference, and the factor is
-- cancelled
module _ (t : Rule) where
  equal : {z w : ℤ} → factor t *ℤ (z -ℤ w) ≡ pos 0 → z ≡ w
  equal {z} {w} e =
      ring1 (z ∷ w ∷ []) (v 0) (v 1) (con (pos 1)) (v 0 :- v 1) (con (pos 0)) (zero_cancel t.above e) refl

  module _ (p q : Point) (g : (image t p).x ≡ (image t q).x) (h : (image t p).y ≡ (image t q).y) where
    equal_x : p.x ≡ q.x
    equal_x =
        equal (ring2 (numbers t (p.x ∷ p.y ∷ q.x ∷ q.y ∷ [])) (factor_of :* (v 6 :- v 8)) (con (pos 0))
        (v 3) (image_x (v 6) (v 7)) (image_x (v 8) (v 9)) (neg (v 1)) (image_y (v 6) (v 7))
        (image_y (v 8) (v 9)) g h refl)

    equal_y : p.y ≡ q.y
    equal_y =
        equal (ring2 (numbers t (p.x ∷ p.y ∷ q.x ∷ q.y ∷ [])) (factor_of :* (v 7 :- v 9)) (con (pos 0))
        (neg (v 2)) (image_x (v 6) (v 7)) (image_x (v 8) (v 9)) (v 0) (image_y (v 6) (v 7))
        (image_y (v 8) (v 9)) g h refl)

  pub image_apart : {p q : Point} → image t p ≡ image t q → p ≡ q
  image_apart {p} {q} h =
      let g : (image t p).x ≡ (image t q).x = ap (λ s. s.x) h in
      let k : (image t p).y ≡ (image t q).y = ap (λ s. s.y) h in
      λ i. record { x = equal_x p q g k i; y = equal_y p q g k i }

-- ---- the point of ab that p and r name, r times as large; and a point r times as large
abbrev named : ℤ → ℤ → Point → Point → Point
named r p a b = record { x = r *ℤ a.x +ℤ p *ℤ (b.x -ℤ a.x); y = r *ℤ a.y +ℤ p *ℤ (b.y -ℤ a.y) }

abbrev grown : ℤ → Point → Point
grown r e = record { x = r *ℤ e.x; y = r *ℤ e.y }

module _ (t : Rule) (r : ℤ) where
  -- the rule for points r times as large
  abbrev pub grown_rule : Rule
  grown_rule = record { a = t.a; b = t.b; c = t.c; d = t.d; e = r *ℤ t.e; f = r *ℤ t.f; above = t.above }

  -- it sends the point named to the point that p and r name between the images
  named_moved : (p : ℤ) (a b : Point) → named r p (image t a) (image t b) ≡ image grown_rule (named r p a b)
  named_moved p a b = λ i. record {
    x = ring ρ (between (image_x (v 8) (v 9)) (image_x (v 10) (v 11)))
        (v 0 :* between (v 8) (v 10) :+ v 1 :* between (v 9) (v 11) :+ v 6 :* v 4) refl i;
    y = ring ρ (between (image_y (v 8) (v 9)) (image_y (v 10) (v 11)))
        (v 2 :* between (v 8) (v 10) :+ v 3 :* between (v 9) (v 11) :+ v 6 :* v 5) refl i;
  }
    where
      ρ : List ℤ
      ρ = numbers t (r ∷ p ∷ a.x ∷ a.y ∷ b.x ∷ b.y ∷ [])

      between : E → E → E
      between z w = v 6 :* z :+ v 7 :* (w :- z)

  pub grown_moved : (e : Point) → grown r (image t e) ≡ image grown_rule (grown r e)
  grown_moved e = λ i. record {
    x = ring ρ (v 6 :* image_x (v 7) (v 8)) (v 0 :* (v 6 :* v 7) :+ v 1 :* (v 6 :* v 8) :+ v 6 :* v 4) refl i;
    y = ring ρ (v 6 :* image_y (v 7) (v 8)) (v 2 :* (v 6 :* v 7) :+ v 3 :* (v 6 :* v 8) :+ v 6 :* v 5) refl i;
  }
    where
      ρ : List ℤ
      ρ = numbers t (r ∷ e.x ∷ e.y ∷ [])

-- ---- the numbers that name a shared point of two segments name one of their images, and back
same_point : {a b c d : Point} (s : Shared a b c d) → named s.r s.p a b ≡ named s.r s.q c d
same_point s = λ i. record { x = s.same_x i; y = s.same_y i }

abbrev by_same_numbers : {a b c d a' b' c' d' : Point} (s : Shared a b c d) →
    named s.r s.p a' b' ≡ named s.r s.q c' d' → Shared a' b' c' d'
by_same_numbers s e = record {
  p = s.p;
  q = s.q;
  r = s.r;
  r_above = s.r_above;
  p_from = s.p_from;
  p_to = s.p_to;
  q_from = s.q_from;
  q_to = s.q_to;
  same_x = ap (λ u. u.x) e;
  same_y = ap (λ u. u.y) e;
}

module _ (t : Rule) (a b c d : Point) where
  abbrev shared_on : Shared a b c d → Shared (image t a) (image t b) (image t c) (image t d)
  shared_on s =
      by_same_numbers s
      (named_moved t s.r s.p a b ∙ ap (image (grown_rule t s.r)) (same_point s)
      ∙ sym (named_moved t s.r s.q c d))

  abbrev shared_back : Shared (image t a) (image t b) (image t c) (image t d) → Shared a b c d
  shared_back s =
      by_same_numbers s
      (image_apart (grown_rule t s.r)
      (sym (named_moved t s.r s.p a b) ∙ same_point s ∙ named_moved t s.r s.q c d))

  pub shared_moved : Shared a b c d ↔ Shared (image t a) (image t b) (image t c) (image t d)
  shared_moved = (shared_on, shared_back)

module _ (t : Rule) (e a b : Point) (p r : ℤ) where
  at_on : IsAt e a b p r → IsAt (image t e) (image t a) (image t b) p r
  at_on h = record { on_x = ap (λ u. u.x) there; on_y = ap (λ u. u.y) there }
    where
      there : named r p (image t a) (image t b) ≡ grown r (image t e)
      there =
          named_moved t r p a b
          ∙ ap (image (grown_rule t r)) (λ i. record { x = h.on_x i; y = h.on_y i })
          ∙ sym (grown_moved t r e)

  at_back : IsAt (image t e) (image t a) (image t b) p r → IsAt e a b p r
  at_back h = record { on_x = ap (λ u. u.x) here; on_y = ap (λ u. u.y) here }
    where
      here : named r p a b ≡ grown r e
      here =
          image_apart (grown_rule t r)
          (sym (named_moved t r p a b) ∙ (λ i. record { x = h.on_x i; y = h.on_y i }) ∙ grown_moved t r e)

-- ---- angles whose turns have the same signs
inside_too : {p i q j p' i' q' j' : Point} → (pos 0 <ℤ turn_of p i q) ↔ (pos 0 <ℤ turn_of p' i' q') →
    (pos 0 <ℤ turn_of i q j → pos 0 <ℤ turn_of i' q' j') → (pos 0 <ℤ turn_of i j p → pos 0 <ℤ turn_of i' j' p') →
    (pos 0 ≤ℤ turn_of i' p' j' → pos 0 ≤ℤ turn_of i p j) → (pos 0 ≤ℤ turn_of i' j' q' → pos 0 ≤ℤ turn_of i j q) →
    InsideAngle p i q j → InsideAngle p' i' q' j'
inside_too turns after before back_before back_after h = record {
  left = λ l. let k = h.left (turns.1 l) in (after k.0, before k.1);
  other = λ n k. h.other (λ l. n (turns.0 l)) (back_before k.0, back_after k.1);
}

module _ (t : Rule) where
  pub only_moved : (e a b c d : Point) →
      SharedOnlyAt e a b c d ↔ SharedOnlyAt (image t e) (image t a) (image t b) (image t c) (image t d)
  only_moved e a b c d = (
    λ h s. at_on t e a b s.p s.r (h (shared_back t a b c d s)),
    λ h s. at_back t e a b s.p s.r (h (shared_on t a b c d s)),
  )

  -- ---- a turn is multiplied by the factor
  pub turn_moved : (a b c : Point) → turn_of (image t a) (image t b) (image t c) ≡ factor t *ℤ turn_of a b c
  turn_moved a b c =
      ring (numbers t (a.x ∷ a.y ∷ b.x ∷ b.y ∷ c.x ∷ c.y ∷ []))
      (turn (image_x (v 6) (v 7)) (image_y (v 6) (v 7)) (image_x (v 8) (v 9)) (image_y (v 8) (v 9))
      (image_x (v 10) (v 11)) (image_y (v 10) (v 11)))
      (factor_of :* turn (v 6) (v 7) (v 8) (v 9) (v 10) (v 11)) refl
    where
      turn : E → E → E → E → E → E → E
      turn ax ay bx by cx cy = (bx :- ax) :* (cy :- ay) :- (by :- ay) :* (cx :- ax)

  -- so its sign is kept: above zero, not below, and with these two below and zero
  pub above_kept : {z w : ℤ} → w ≡ factor t *ℤ z → (pos 0 <ℤ z) ↔ (pos 0 <ℤ w)
  above_kept e = (
    λ h. subst (λ u. pos 0 <ℤ u) (sym e) (positive_mul t.above h),
    λ h. positive_cancel (positive_nonneg t.above) (subst (λ u. pos 0 <ℤ u) e h),
  )

  not_below_kept : {z w : ℤ} → w ≡ factor t *ℤ z → (pos 0 ≤ℤ z) ↔ (pos 0 ≤ℤ w)
  not_below_kept e = (
    λ h. subst (λ u. pos 0 ≤ℤ u) (sym e) (nonneg_mul (positive_nonneg t.above) h),
    λ h. nonneg_cancel t.above (subst (λ u. pos 0 ≤ℤ u) e h),
  )

  left_turn_kept : (a b c : Point) → (pos 0 <ℤ turn_of a b c) ↔ (pos 0 <ℤ turn_of (image t a) (image t b) (image t c))
  left_turn_kept a b c = above_kept (turn_moved a b c)

  no_right_turn_kept : (a b c : Point) → (pos 0 ≤ℤ turn_of a b c) ↔
      (pos 0 ≤ℤ turn_of (image t a) (image t b) (image t c))
  no_right_turn_kept a b c = not_below_kept (turn_moved a b c)

  -- ---- so what is inside an angle stays inside, and nothing else comes in
  pub inside_moved : (p i q j : Point) →
      InsideAngle p i q j ↔ InsideAngle (image t p) (image t i) (image t q) (image t j)
  inside_moved p i q j = (
    inside_too (left_turn_kept p i q) (left_turn_kept i q j).0 (left_turn_kept i j p).0
        (no_right_turn_kept i p j).1 (no_right_turn_kept i j q).1,
    inside_too (Iff.symm (left_turn_kept p i q)) (left_turn_kept i q j).1 (left_turn_kept i j p).1
        (no_right_turn_kept i p j).0 (no_right_turn_kept i j q).0,
  )
