-- Weighed means: a number with weight r - p and one with weight p, as 01's shared points weigh the ends of a segment.
use Rattle.std.specs.Prelude.{◌≡◌, refl, List, [], ◌∷◌, ℤ, pos, ◌+ℤ◌, ◌-ℤ◌, ◌*ℤ◌, ◌≤ℤ◌, ◌<ℤ◌}
use Rattle.std.proofs.Common.{subst, inl, inr}
use Rattle.whole.specs.Ring.{E, v, ◌:+◌, ◌:-◌, ◌:*◌, neg, ring1, ring2, by_ring}
use Rattle.whole.specs.Order.{Nonneg, Positive, nonneg_add, nonneg_mul, positive_nonneg, positive_add, positive_mul}
use Rattle.whole.specs.Order.{positive_pred, positive_cancel, zero_cancel, le_sub, sub_le, lt_sub}
use Rattle.whole.specs.Order.{Sign, plus, nought, minus, sign}
use Rattle.outline.specs.Spell.{O, I}
use Rattle.outline.specs.Crossing.{Opposite}

-- ---- two numbers, weighed, make nothing: they are opposite, or both zero. Spelled s t x y 0 to 3
pub both_zero : {s t x y : ℤ} → Positive s → Positive t → s *ℤ x +ℤ t *ℤ y ≡ pos 0 → ¬ Opposite x y →
    (x ≡ pos 0) × (y ≡ pos 0)
both_zero {s} {t} {x} {y} hs ht e apart = go (sign x)
  where
    ρ : List ℤ
    ρ = s ∷ t ∷ x ∷ y ∷ []

    sum : E
    sum = v 0 :* v 2 :+ v 1 :* v 3

    go : Sign x → (x ≡ pos 0) × (y ≡ pos 0)
    go (plus h) =
        absurd (apart (inl (
          h,
          positive_cancel (positive_nonneg ht)
              (subst Positive (ring1 ρ (v 0 :* v 2) (v 1 :* neg (v 3)) I sum O e refl) (positive_mul hs h)),
        )))
    go (nought f) = (f, zero_cancel ht (ring2 ρ (v 1 :* v 3) O I sum O (neg (v 0)) (v 2) O e f refl))
    go (minus h) =
        absurd (apart (inr (
          h,
          positive_cancel (positive_nonneg ht)
              (subst Positive (ring1 ρ (v 0 :* neg (v 2)) (v 1 :* v 3) (neg I) sum O e refl) (positive_mul hs h)),
        )))

-- ---- means: r times the mean of x and y, weighed by p. Spelled r p x y k 0 to 4
abbrev pub mean : ℤ → ℤ → ℤ → ℤ → ℤ
mean r p x y = (r -ℤ p) *ℤ x +ℤ p *ℤ y

abbrev pub mean_e : E
mean_e = (v 0 :- v 1) :* v 2 :+ v 1 :* v 3

module _ (r p x y k : ℤ) (p0 : Nonneg p) (p1 : p ≤ℤ r) where
  abbrev τ : List ℤ
  τ = r ∷ p ∷ x ∷ y ∷ k ∷ []

  pub mean_over : Positive r → k <ℤ x → k <ℤ y → Positive (mean r p x y -ℤ r *ℤ k)
  mean_over r+ kx ky =
      by_ring τ Positive (v 0 :+ ((v 0 :- v 1) :* (v 2 :- v 4 :- I) :+ v 1 :* (v 3 :- v 4 :- I)))
      (mean_e :- v 0 :* v 4) refl
      (positive_add r+
      (nonneg_add (nonneg_mul (le_sub p1) (positive_pred (lt_sub kx))) (nonneg_mul p0 (positive_pred (lt_sub ky)))))

  pub mean_under : Positive r → x <ℤ k → y <ℤ k → Positive (r *ℤ k -ℤ mean r p x y)
  mean_under r+ xk yk =
      by_ring τ Positive (v 0 :+ ((v 0 :- v 1) :* (v 4 :- v 2 :- I) :+ v 1 :* (v 4 :- v 3 :- I)))
      (v 0 :* v 4 :- mean_e) refl
      (positive_add r+
      (nonneg_add (nonneg_mul (le_sub p1) (positive_pred (lt_sub xk))) (nonneg_mul p0 (positive_pred (lt_sub yk)))))

  pub mean_least : k ≤ℤ x → k ≤ℤ y → (r *ℤ k) ≤ℤ mean r p x y
  mean_least kx ky =
      sub_le (by_ring τ Nonneg ((v 0 :- v 1) :* (v 2 :- v 4) :+ v 1 :* (v 3 :- v 4)) (mean_e :- v 0 :* v 4) refl
      (nonneg_add (nonneg_mul (le_sub p1) (le_sub kx)) (nonneg_mul p0 (le_sub ky))))

  pub mean_most : x ≤ℤ k → y ≤ℤ k → mean r p x y ≤ℤ (r *ℤ k)
  mean_most xk yk =
      sub_le (by_ring τ Nonneg ((v 0 :- v 1) :* (v 4 :- v 2) :+ v 1 :* (v 4 :- v 3)) (v 0 :* v 4 :- mean_e) refl
      (nonneg_add (nonneg_mul (le_sub p1) (le_sub xk)) (nonneg_mul p0 (le_sub yk))))
