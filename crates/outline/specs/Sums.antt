-- Sums of whole numbers over the first n places, bounds of finitely many numbers, and steps of one up or down from a
-- number to another.
use Rattle.std.specs.Prelude.{◌≡◌, refl, ◌⊎◌, [], ◌∷◌, ℕ, zero, suc, ◌<◌, ℤ, pos, negsuc, neg_ℤ, ◌+ℤ◌, ◌-ℤ◌, ◌*ℤ◌, ◌≤ℤ◌, ◌<ℤ◌}
use Rattle.std.proofs.Common.{sym, ◌∙◌, ap, ap₂, subst, inl, inr, arith, le_refl, not-suc-le-zero}
use Rattle.std.proofs.Math.IntN.{pos-+ℤ-pos, *ℤ-zero}
use Rattle.std.specs.Int.Signed.{≤ℤ_refl}
use Rattle.whole.specs.Laws.{+ℤ_middle, *ℤ_distl}
use Rattle.whole.specs.Ring.{v, ◌:+◌, ◌:-◌, neg, ring, by_ring}
use Rattle.whole.specs.Order.{Nonneg, Positive, positive_pos, le_sub, sub_le, sub_lt, ≤ℤ_trans, ≤ℤ_<ℤ_trans, ≤ℤ_total}
use Rattle.whole.specs.Order.{<ℤ_le}
use Rattle.outline.specs.Spell.{O, I}
use Rattle.outline.specs.Topmost.{last}

-- ---- f 0 + .. + f (n - 1)
abbrev pub sum : (ℕ → ℤ) → ℕ → ℤ
sum f zero = pos 0
sum f (suc k) = sum f k +ℤ f k

pub sum_same : (f g : ℕ → ℤ) (n : ℕ) → ((m : ℕ) → m < n → f m ≡ g m) → sum f n ≡ sum g n
sum_same f g zero h = refl
sum_same f g (suc n) h = ap₂ ◌+ℤ◌ (sum_same f g n (λ m k. h m (omega arith))) (h n (le_refl (suc n)))

pub sum_nought : (f : ℕ → ℤ) (n : ℕ) → ((m : ℕ) → m < n → f m ≡ pos 0) → sum f n ≡ pos 0
sum_nought f zero h = refl
sum_nought f (suc n) h = ap₂ ◌+ℤ◌ (sum_nought f n (λ m k. h m (omega arith))) (h n (le_refl (suc n)))

pub sum_add : (f g : ℕ → ℤ) (n : ℕ) → sum (λ m. f m +ℤ g m) n ≡ sum f n +ℤ sum g n
sum_add f g zero = refl
sum_add f g (suc n) = ap (λ z. z +ℤ (f n +ℤ g n)) (sum_add f g n) ∙ +ℤ_middle (sum f n) (sum g n) (f n) (g n)

pub sum_times : (k : ℤ) (f : ℕ → ℤ) (n : ℕ) → sum (λ m. k *ℤ f m) n ≡ k *ℤ sum f n
sum_times k f zero = sym (*ℤ-zero k)
sum_times k f (suc n) = ap (λ z. z +ℤ k *ℤ f n) (sum_times k f n) ∙ sym (*ℤ_distl k (sum f n) (f n))

-- the steps of f from place to place
pub sum_steps : (f : ℕ → ℤ) (n : ℕ) → sum (λ m. f (suc m) -ℤ f m) n ≡ f n -ℤ f 0
sum_steps f zero = ring (f 0 ∷ []) O (v 0 :- v 0) refl
sum_steps f (suc n) =
    ap (λ z. z +ℤ (f (suc n) -ℤ f n)) (sum_steps f n)
    ∙ ring (f 0 ∷ f n ∷ f (suc n) ∷ []) (v 1 :- v 0 :+ (v 2 :- v 1)) (v 2 :- v 0) refl

-- ---- bounds
pub record Bounds (X : ℕ → ℤ) (n : ℕ) : Type 0 where
  pub low : ℤ
  pub high : ℤ
  pub low_high : low ≤ℤ high
  pub over : (m : ℕ) → m < n → X m ≤ℤ high
  pub under : (m : ℕ) → m < n → low <ℤ X m

one_less : (z : ℤ) → (z -ℤ pos 1) <ℤ z
one_less z = sub_lt (by_ring (z ∷ []) Positive I (v 0 :- (v 0 :- I)) refl (positive_pos 0))

-- not above a and below b; not below either
lower : (a b : ℤ) → (l : ℤ) × ((l ≤ℤ a) × (l <ℤ b))
lower a b = go (≤ℤ_total b a)
  where
    go : (b ≤ℤ a) ⊎ (a <ℤ b) → (l : ℤ) × ((l ≤ℤ a) × (l <ℤ b))
    go (inl h) = (b -ℤ pos 1, (≤ℤ_trans (<ℤ_le (one_less b)) h, one_less b))
    go (inr h) = (a, (≤ℤ_refl a, h))

upper : (a b : ℤ) → (u : ℤ) × ((a ≤ℤ u) × (b ≤ℤ u))
upper a b = go (≤ℤ_total a b)
  where
    go : (a ≤ℤ b) ⊎ (b <ℤ a) → (u : ℤ) × ((a ≤ℤ u) × (b ≤ℤ u))
    go (inl h) = (b, (h, ≤ℤ_refl b))
    go (inr h) = (a, (≤ℤ_refl a, <ℤ_le h))

pub bounds : (X : ℕ → ℤ) (n : ℕ) → Bounds X n
bounds X zero = record {
  low = pos 0;
  high = pos 0;
  low_high = ≤ℤ_refl (pos 0);
  over = λ m h. absurd (not-suc-le-zero h);
  under = λ m h. absurd (not-suc-le-zero h);
}
bounds X (suc n) = go (bounds X n)
  where
    go : Bounds X n → Bounds X (suc n)
    go b = record {
      low = l.0;
      high = u.0;
      low_high = ≤ℤ_trans l.1.0 (≤ℤ_trans b.low_high u.1.0);
      over = λ m k. over m (last m n k);
      under = λ m k. under m (last m n k);
    }
      where
        l : (l : ℤ) × ((l ≤ℤ b.low) × (l <ℤ X n))
        l = lower b.low (X n)

        u : (u : ℤ) × ((b.high ≤ℤ u) × (X n ≤ℤ u))
        u = upper b.high (X n)

        over : (m : ℕ) → (m < n) ⊎ (m ≡ n) → X m ≤ℤ u.0
        over m (inl k) = ≤ℤ_trans (b.over m k) u.1.0
        over m (inr e) = subst (λ j. X j ≤ℤ u.0) (sym e) u.1.1

        under : (m : ℕ) → (m < n) ⊎ (m ≡ n) → l.0 <ℤ X m
        under m (inl k) = ≤ℤ_<ℤ_trans l.1.0 (b.under m k)
        under m (inr e) = subst (λ j. l.0 <ℤ X j) (sym e) l.1.1

-- ---- steps of one
count_of : (z : ℤ) → Nonneg z → (t : ℕ) × (z ≡ pos t)
count_of (pos t) h = (t, refl)
count_of (negsuc t) h = absurd h.le

pos_suc : (t : ℕ) → pos (suc t) ≡ pos t +ℤ pos 1
pos_suc t = ap pos (omega arith) ∙ sym (pos-+ℤ-pos t 1)

pub upward : (P : ℤ → Type 0) (a : ℤ) → P a → ((z : ℤ) → P z → P (z +ℤ pos 1)) → (z : ℤ) → a ≤ℤ z → P z
upward P a start step z h =
    let t = count_of (z -ℤ a) (le_sub h) in
    subst P (ap (λ s. a +ℤ s) (sym t.1) ∙ ring (a ∷ z ∷ []) (v 0 :+ (v 1 :- v 0)) (v 1) refl) (steps t.0)
  where
    steps : (t : ℕ) → P (a +ℤ pos t)
    steps zero = subst P (ring (a ∷ []) (v 0) (v 0 :+ O) refl) start
    steps (suc t) =
        subst P (ring (a ∷ pos t ∷ []) (v 0 :+ v 1 :+ I) (v 0 :+ (v 1 :+ I)) refl ∙ ap (λ s. a +ℤ s) (sym (pos_suc t)))
        (step (a +ℤ pos t) (steps t))

-- the numbers with their signs changed
pub downward : (P : ℤ → Type 0) (a : ℤ) → P a → ((z : ℤ) → P z → P (z -ℤ pos 1)) → (z : ℤ) → z ≤ℤ a → P z
downward P a start step z h =
    subst P (twice z)
    (upward (λ w. P (neg_ℤ w)) (neg_ℤ a) (subst P (sym (twice a)) start)
    (λ w p. subst P (ring (w ∷ []) (neg (v 0) :- I) (neg (v 0 :+ I)) refl) (step (neg_ℤ w) p)) (neg_ℤ z)
    (sub_le (by_ring (a ∷ z ∷ []) Nonneg (v 0 :- v 1) (neg (v 1) :- neg (v 0)) refl (le_sub h))))
  where
    twice : (w : ℤ) → neg_ℤ (neg_ℤ w) ≡ w
    twice w = ring (w ∷ []) (neg (neg (v 0))) (v 0) refl
