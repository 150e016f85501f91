-- Of finitely many numbers with a property, one at which a measure is largest.
use Rattle.std.specs.Prelude.{◌≡◌, ◌⊎◌, ℕ, zero, suc, ◌<◌, ◌≤◌, ℤ, ◌≤ℤ◌, ◌<ℤ◌}
use Rattle.std.proofs.Common.{sym, subst, inl, inr, not-suc-le-zero, arith}
use Rattle.std.proofs.Math.Decide.{ℕ_discrete}
use Rattle.std.specs.Int.Signed.{≤ℤ_refl}
use Rattle.whole.specs.Order.{≤ℤ_trans, ≤ℤ_total, <ℤ_le}
use Rattle.outline.specs.Tells.{Decide}

-- the last number below t + 1 is t
pub last : (m t : ℕ) → m < suc t → (m < t) ⊎ (m ≡ t)
last m t h = go (ℕ_discrete m t)
  where
    go : Dec (m ≡ t) → (m < t) ⊎ (m ≡ t)
    go (yes e) = inr e
    go (no e) = inl (omega arith)

-- k has the property, and no number below t that has it is measured larger
pub record Top (P : ℕ → Type 0) (f : ℕ → ℤ) (n t : ℕ) : Type 0 where
  pub k : ℕ
  pub below : k < n
  pub has : P k
  pub top : (m : ℕ) → m < t → P m → f m ≤ℤ f k

module _ (P : ℕ → Type 0) (decide : (m : ℕ) → Decide (P m)) (f : ℕ → ℤ) (n : ℕ) where
  -- one number more: measured against the one held so far
  more : (t : ℕ) → t < n → Top P f n t → Decide (P t) → Top P f n (suc t)
  more t h s (inr i) = record { k = s.k; below = s.below; has = s.has; top = λ m a q. at m q (last m t a) }
    where
      at : (m : ℕ) → P m → (m < t) ⊎ (m ≡ t) → f m ≤ℤ f s.k
      at m q (inl a) = s.top m a q
      at m q (inr e) = absurd (i (subst P e q))
  more t h s (inl i) = pick (≤ℤ_total (f t) (f s.k))
    where
      keep : (b : ℤ) → f s.k ≤ℤ b → f t ≤ℤ b → (m : ℕ) → P m → (m < t) ⊎ (m ≡ t) → f m ≤ℤ b
      keep b old new m q (inl a) = ≤ℤ_trans (s.top m a q) old
      keep b old new m q (inr e) = subst (λ j. f j ≤ℤ b) (sym e) new

      pick : (f t ≤ℤ f s.k) ⊎ (f s.k <ℤ f t) → Top P f n (suc t)
      pick (inl g) =
          record {
            k = s.k;
            below = s.below;
            has = s.has;
            top = λ m a q. keep (f s.k) (≤ℤ_refl (f s.k)) g m q (last m t a);
          }
      pick (inr g) =
          record { k = t; below = h; has = i; top = λ m a q. keep (f t) (<ℤ_le g) (≤ℤ_refl (f t)) m q (last m t a) }

  -- given one with the property
  pub topmost : (k : ℕ) → k < n → P k → (t : ℕ) → t ≤ n → Top P f n t
  topmost k b p zero h = record { k = k; below = b; has = p; top = λ m i. absurd (not-suc-le-zero i) }
  topmost k b p (suc t) h = more t h (topmost k b p t (omega arith)) (decide t)
