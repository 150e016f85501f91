-- A side ab that shares a point with the open stretch of the line IJ between the places k and l, and no end of which
-- lies inside the stretch: it crosses the line, or it lies on the line and covers the whole stretch.
--
--      I ----- k ====z===w=== l ------- J          a ------- k ====z===w=== l --- b
use Rattle.std.specs.Prelude.{◌≡◌, refl, ◌⊎◌, List, [], ◌∷◌, ℤ, pos, ◌-ℤ◌, ◌*ℤ◌, ◌≤ℤ◌, ◌<ℤ◌}
use Rattle.std.proofs.Common.{sym, ◌∙◌, subst, inl, inr}
use Rattle.std.specs.Int.Signed.{<ℤ-≤ℤ_trans, clash_ℤ}
use Rattle.whole.specs.Ring.{v, ◌:+◌, ◌:-◌, ◌:*◌, neg, ring1, ring2, by_ring}
use Rattle.whole.specs.Order.{Nonneg, Positive, nonneg_add, nonneg_mul, positive_nonneg, positive_mul}
use Rattle.whole.specs.Order.{positive_or, zero_cancel, le_sub, sub_le, sub_lt}
use Rattle.whole.specs.Order.{≤ℤ_trans, ≤ℤ_<ℤ_trans, <ℤ_le}
use Rattle.outline.specs.Drawing.{Point, Shared, turn_of}
use Rattle.outline.specs.Spell.{PointE, A, B, C, D, P, Q, R, O, I, TurnE, DotE, At, ab_x, ab_y, cd_x, cd_y}
use Rattle.outline.specs.Placed.{On, on_turn}
use Rattle.outline.specs.Along.{len2, along, on_x, on_y, between}
use Rattle.outline.specs.Crossing.{Opposite}
use Rattle.outline.specs.Means.{both_zero, mean, mean_e, mean_over, mean_under, mean_least, mean_most}

-- ---- outside the stretch from k to l
abbrev pub Free : ℤ → ℤ → ℤ → Type 0
Free k l t = (t ≤ℤ k) ⊎ (l ≤ℤ t)

-- z w a b p q r are spelled as in `Spell`, and I and J so
abbrev S : PointE
S = record { x = v 11; y = v 12 }

abbrev T : PointE
T = record { x = v 13; y = v 14 }

module _ (i j z w a b : Point) (n+ : Positive (len2 i j)) (ez : turn_of i j z ≡ pos 0) (ew : turn_of i j w ≡ pos 0)
    (k l : ℤ) (kz : k <ℤ along i j z) (zl : along i j z <ℤ l) (kw : k <ℤ along i j w) (wl : along i j w <ℤ l)
    (s : Shared z w a b) where
  abbrev ρ : List ℤ
  ρ =
      z.x ∷ z.y ∷ w.x ∷ w.y ∷ a.x ∷ a.y ∷ b.x ∷ b.y ∷ s.p ∷ s.q ∷ s.r
      ∷ i.x ∷ i.y ∷ j.x ∷ j.y ∷ []

  -- the shared point does not turn from the line; and its place, by z and w and by a and b
  turns : mean s.r s.q (turn_of i j a) (turn_of i j b) ≡ pos 0
  turns =
      ring2 ρ ((R :- Q) :* TurnE S T C :+ Q :* TurnE S T D) ((R :- P) :* TurnE S T A :+ P :* TurnE S T B)
      (T.y :- S.y) ab_x cd_x (neg (T.x :- S.x)) ab_y cd_y s.same_x s.same_y refl
      ∙ ring2 ρ ((R :- P) :* TurnE S T A :+ P :* TurnE S T B) O (R :- P) (TurnE S T A) O P (TurnE S T B) O ez ew refl

  abbrev shared_place : ℤ
  shared_place = mean s.r s.p (along i j z) (along i j w)

  places : shared_place ≡ mean s.r s.q (along i j a) (along i j b)
  places =
      sym (ring2 ρ ((R :- Q) :* DotE S C T :+ Q :* DotE S D T) ((R :- P) :* DotE S A T :+ P :* DotE S B T)
      (neg (T.x :- S.x)) ab_x cd_x (neg (T.y :- S.y)) ab_y cd_y s.same_x s.same_y refl)

  -- so two places with that mean, neither inside the stretch, lie at its two ends
  parted : (x y : ℤ) → shared_place ≡ mean s.r s.q x y → Free k l x → Free k l y →
      ((x ≤ℤ k) × (l ≤ℤ y)) ⊎ ((l ≤ℤ x) × (y ≤ℤ k))
  parted x y e (inl f) (inr g) = inl (f, g)
  parted x y e (inr f) (inl g) = inr (f, g)
  parted x y e (inl f) (inl g) =
      absurd (clash_ℤ
      (sub_lt (mean_over s.r s.p (along i j z) (along i j w) k s.p_from s.p_to s.r_above kz kw))
      (subst (λ t. t ≤ℤ (s.r *ℤ k)) (sym e) (mean_most s.r s.q x y k s.q_from s.q_to f g)))
  parted x y e (inr f) (inr g) =
      absurd (clash_ℤ
      (sub_lt (mean_under s.r s.p (along i j z) (along i j w) l s.p_from s.p_to s.r_above zl wl))
      (subst (λ t. (s.r *ℤ l) ≤ℤ t) (sym e) (mean_least s.r s.q x y l s.q_from s.q_to f g)))

  -- no one place is at both
  not_alone : (x : ℤ) → shared_place ≡ mean s.r s.q x x → ¬ Free k l x
  not_alone x e f = go (parted x x e f f)
    where
      kl : k <ℤ l
      kl = <ℤ-≤ℤ_trans kz (<ℤ_le zl)

      go : ¬ (((x ≤ℤ k) × (l ≤ℤ x)) ⊎ ((l ≤ℤ x) × (x ≤ℤ k)))
      go (inl h) = clash_ℤ kl (≤ℤ_trans h.1 h.0)
      go (inr h) = clash_ℤ kl (≤ℤ_trans h.0 h.1)

  -- z, between k and l, is then on ab
  lies : turn_of i j a ≡ pos 0 → turn_of i j b ≡ pos 0 →
      ((along i j a ≤ℤ k) × (l ≤ℤ along i j b)) ⊎ ((l ≤ℤ along i j a) × (along i j b ≤ℤ k)) → On z a b
  lies ea eb (inl h) =
      let az = ≤ℤ_<ℤ_trans h.0 kz in
      let zb = <ℤ-≤ℤ_trans zl h.1 in
      between i j z a b n+ ez ea eb (<ℤ_le az) (<ℤ_le zb) (<ℤ-≤ℤ_trans az (<ℤ_le zb))
  lies ea eb (inr h) =
      let bz = ≤ℤ_<ℤ_trans h.1 kz in
      let za = <ℤ-≤ℤ_trans zl h.0 in
      on_turn (between i j z b a n+ ez eb ea (<ℤ_le bz) (<ℤ_le za) (<ℤ-≤ℤ_trans bz (<ℤ_le za)))

  -- ---- so where ab does not cross the line, it is inner to ab and ab lies on the line
  pub covers : ¬ Opposite (turn_of i j a) (turn_of i j b) → (turn_of i j a ≡ pos 0 → Free k l (along i j a)) →
      (turn_of i j b ≡ pos 0 → Free k l (along i j b)) → On z a b
  covers apart fa fb = go (positive_or s.q_from) (positive_or (le_sub s.q_to))
    where
      τ' : ℤ → ℤ → List ℤ
      τ' x y = s.r ∷ s.q ∷ x ∷ y ∷ []

      -- the shared point is not an end of the side
      not_a : ¬ (s.q ≡ pos 0)
      not_a e =
          not_alone (along i j a)
          (places ∙ ring1 (τ' (along i j a) (along i j b)) mean_e ((v 0 :- v 1) :* v 2 :+ v 1 :* v 2) (v 3 :- v 2)
          (v 1) O e refl)
          (fa (zero_cancel s.r_above (ring2 (τ' (turn_of i j a) (turn_of i j b)) (v 0 :* v 2) O I mean_e O (v 2 :- v 3)
          (v 1) O turns e refl)))

      not_b : ¬ (s.r -ℤ s.q ≡ pos 0)
      not_b e =
          not_alone (along i j b)
          (places ∙ ring1 (τ' (along i j a) (along i j b)) mean_e ((v 0 :- v 1) :* v 3 :+ v 1 :* v 3) (v 2 :- v 3)
          (v 0 :- v 1) O e refl)
          (fb (zero_cancel s.r_above (ring2 (τ' (turn_of i j a) (turn_of i j b)) (v 0 :* v 3) O I mean_e O (v 3 :- v 2)
          (v 0 :- v 1) O turns e refl)))

      go : Positive s.q ⊎ (s.q ≡ pos 0) → Positive (s.r -ℤ s.q) ⊎ (s.r -ℤ s.q ≡ pos 0) → On z a b
      go (inl h) (inl g) =
          let t = both_zero g h turns apart in
          lies t.0 t.1 (parted (along i j a) (along i j b) places (fa t.0) (fb t.1))
      go (inl h) (inr e) = absurd (not_b e)
      go (inr e) g = absurd (not_a e)

  -- ---- a point shared with the stretch is shared with the whole segment
  pub shared_whole : Nonneg k → l ≤ℤ len2 i j → Shared i j a b
  shared_whole k0 ln =
      record {
        p = shared_place;
        q = s.q *ℤ len2 i j;
        r = s.r *ℤ len2 i j;
        r_above = positive_mul s.r_above n+;
        p_from =
            nonneg_add (nonneg_mul (le_sub s.p_to) (≤ℤ_trans k0 (<ℤ_le kz)))
            (nonneg_mul s.p_from (≤ℤ_trans k0 (<ℤ_le kw)));
        p_to =
            mean_most s.r s.p (along i j z) (along i j w) (len2 i j) s.p_from s.p_to
            (≤ℤ_trans (<ℤ_le zl) ln) (≤ℤ_trans (<ℤ_le wl) ln);
        q_from = nonneg_mul s.q_from (positive_nonneg n+);
        q_to =
            sub_le (by_ring (s.r ∷ s.q ∷ len2 i j ∷ []) Nonneg ((v 0 :- v 1) :* v 2) (v 0 :* v 2 :- v 1 :* v 2) refl
            (nonneg_mul (le_sub s.q_to) (positive_nonneg n+)));
        same_x =
            ring2 ρ (R :* DotE S T T :* S.x :+ ((R :- P) :* DotE S A T :+ P :* DotE S B T) :* (T.x :- S.x))
            (DotE S T T :* ab_x) (neg (R :- P)) (DotE S T T :* (A.x :- S.x)) (DotE S A T :* (T.x :- S.x))
            (neg P) (DotE S T T :* (B.x :- S.x)) (DotE S B T :* (T.x :- S.x)) (on_x i j z ez) (on_x i j w ew) refl
            ∙ ring1 ρ (DotE S T T :* ab_x) (At (R :* DotE S T T) C.x (Q :* DotE S T T) D.x) (DotE S T T)
            ab_x cd_x s.same_x refl;
        same_y =
            ring2 ρ (R :* DotE S T T :* S.y :+ ((R :- P) :* DotE S A T :+ P :* DotE S B T) :* (T.y :- S.y))
            (DotE S T T :* ab_y) (neg (R :- P)) (DotE S T T :* (A.y :- S.y)) (DotE S A T :* (T.y :- S.y))
            (neg P) (DotE S T T :* (B.y :- S.y)) (DotE S B T :* (T.y :- S.y)) (on_y i j z ez) (on_y i j w ew) refl
            ∙ ring1 ρ (DotE S T T :* ab_y) (At (R :* DotE S T T) C.y (Q :* DotE S T T) D.y) (DotE S T T)
            ab_y cd_y s.same_y refl;
      }
