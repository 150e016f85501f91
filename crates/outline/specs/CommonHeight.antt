-- One whole number that the height of every side divides: in a drawing that many times as large, every side passes
-- each row at a whole place.
use Rattle.std.specs.Prelude.{◌≡◌, refl, cond, ◌⊎◌, [], ◌∷◌, ℕ, zero, suc, ◌<◌, eqb, ℤ, pos, neg_ℤ, ◌-ℤ◌, ◌*ℤ◌}
use Rattle.std.proofs.Common.{sym, subst, inl, inr, arith, not-suc-le-zero, eq-eqb, ne_eqb}
use Rattle.whole.specs.Ring.{v, ◌:*◌, neg, ring, ring1}
use Rattle.whole.specs.Order.{Positive, Sign, plus, nought, minus, sign, positive_pos, positive_mul}
use Rattle.outline.specs.Topmost.{last}

-- a height of nought, or one that goes e times into D
abbrev pub Divides : ℤ → ℤ → ℤ → Type 0
Divides e height D = (height ≡ pos 0) ⊎ (e *ℤ height ≡ D)

pub divided : (e height D : ℤ) → Divides e height D → ¬ (height ≡ pos 0) → e *ℤ height ≡ D
divided e height D (inl z) n = absurd (n z)
divided e height D (inr z) n = z

-- the heights are the steps of y
pub record Common (y : ℕ → ℤ) (t : ℕ) : Type 0 where
  pub D : ℤ
  pub D+ : Positive D
  pub times : ℕ → ℤ
  pub divides : (k : ℕ) → k < t → Divides (times k) (y (suc k) -ℤ y k) D

module _ (y : ℕ → ℤ) where
  abbrev height : ℕ → ℤ
  height k = y (suc k) -ℤ y k

  -- s times the number so far, of which the next height is a part
  grow : (t : ℕ) (g : Common y t) (s : ℤ) → Positive s → (e : ℤ) → e *ℤ height t ≡ g.D *ℤ s → Common y (suc t)
  grow t g s s+ e new = record {
    D = g.D *ℤ s;
    D+ = positive_mul g.D+ s+;
    times = λ k. cond (eqb k t) e (g.times k *ℤ s);
    divides = λ k h. at k (last k t h);
  }
    where
      old : (k : ℕ) → Divides (g.times k) (height k) g.D → Divides (g.times k *ℤ s) (height k) (g.D *ℤ s)
      old k (inl z) = inl z
      old k (inr z) =
          inr (ring1 (g.times k ∷ s ∷ height k ∷ g.D ∷ []) (v 0 :* v 1 :* v 2) (v 3 :* v 1) (v 1) (v 0 :* v 2) (v 3)
          z refl)

      at : (k : ℕ) → (k < t) ⊎ (k ≡ t) → Divides (cond (eqb k t) e (g.times k *ℤ s)) (height k) (g.D *ℤ s)
      at k (inl h) = rw (ne_eqb k t (λ z. omega arith)) (old k (g.divides k h))
      at k (inr h) = rw (eq-eqb k t h) (subst (λ j. Divides e (height j) (g.D *ℤ s)) (sym h) (inr new))

  -- a height of nought asks nothing
  keep : (t : ℕ) → Common y t → height t ≡ pos 0 → Common y (suc t)
  keep t g level = record { D = g.D; D+ = g.D+; times = g.times; divides = λ k i. at k (last k t i) }
    where
      at : (k : ℕ) → (k < t) ⊎ (k ≡ t) → Divides (g.times k) (height k) g.D
      at k (inl i) = g.divides k i
      at k (inr e) = inl (subst (λ j. height j ≡ pos 0) (sym e) level)

  pub common : (t : ℕ) → Common y t
  common zero = record {
    D = pos 1;
    D+ = positive_pos 0;
    times = λ k. pos 0;
    divides = λ k h. absurd (not-suc-le-zero h);
  }
  common (suc t) = go (common t) (sign (height t))
    where
      go : Common y t → Sign (height t) → Common y (suc t)
      go g (plus h) = grow t g (height t) h g.D refl
      go g (minus h) =
          grow t g (neg_ℤ (height t)) h (neg_ℤ g.D)
          (ring (g.D ∷ height t ∷ []) (neg (v 0) :* v 1) (v 0 :* neg (v 1)) refl)
      go g (nought e) = keep t g e
