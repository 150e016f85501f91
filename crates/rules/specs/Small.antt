-- The values of finished tables are small, so that no sum of two was cut off at `top`: each is below the distance of
-- its ends on the scale.
use Rattle.std.specs.Prelude.{◌≡◌, ◌⊎◌}
use Rattle.std.proofs.Common.{sym, ap, subst, inl, inr, ⊎_elim}
use Prim.Native.Nat.{ℕ, zero, suc, ◌+◌, ◌<◌, ◌≤◌, min}
use native.Mathlib.Omega.{arith}
use Rattle.std.proofs.Math.Decide.{dec_lt, ℕ_discrete}
use Rattle.rules.specs.Table.{Closes}
use Rattle.rules.specs.Columns.{pays, Least, Column, LeastOver, Valued, Solved}

-- ---- what the least over the centres says
pub min_low : (t v w m a b : ℕ) → v ≡ min t (w + min (min m (min t a)) (min t b)) →
    (v ≤ w + m) × (v ≤ w + a) × (v ≤ w + b) × (v ≤ t)
min_low t v w m a b e = (omega arith, omega arith, omega arith, omega arith)

pub min_hit : (t v w m a b : ℕ) → v ≡ min t (w + min (min m (min t a)) (min t b)) → v < t →
    (v ≡ w + m) ⊎ ((v ≡ w + a) ⊎ (v ≡ w + b))
min_hit t v w m a b e h = go (dec_lt v (w + m)) (dec_lt v (w + a))
  where
    go : Dec (v < w + m) → Dec (v < w + a) → (v ≡ w + m) ⊎ ((v ≡ w + a) ⊎ (v ≡ w + b))
    go (no p) d = inl (omega arith)
    go (yes p) (no q) = inr (inl (omega arith))
    go (yes p) (yes q) = inr (inr (omega arith))

pub least_same : {top : ℕ} {f g : ℕ → ℕ} {lo hi r r' : ℕ} → ((b : ℕ) → lo < b → b < hi → g b ≡ f b) → r' ≡ r →
    Least top f lo hi r → Least top g lo hi r'
least_same e e' l = record {
  most = omega (arith, l.most);
  low = λ b h k. omega (arith, l.low b h k, e b k h);
  hit = λ h. let c = l.hit (omega arith) in (c.0, c.1, c.2, omega (arith, c.3, e c.0 c.1 c.2));
}

module _ {top : ℕ} {w : ℕ → ℕ → ℕ} {cut : ℕ → ℕ → Type 0} {veil val left : ℕ → ℕ → ℕ} {road : ℕ → ℕ → ℕ → ℕ} {n : ℕ}
    (solved : Solved top w cut veil val left road n) where
  abbrev scale : ℕ → ℕ
  scale = solved.light.scale

  abbrev heaviest : ℕ
  heaviest = solved.light.heaviest

  col : (j : ℕ) → j < n → Column top veil val n j 0 (road j)
  col j jn = (solved.columns j jn).column

  -- ---- who sees
  -- a veil below top is 0
  pub lifted : (y x : ℕ) → y < n → x < n → veil y x < top → veil y x ≡ 0
  lifted y x yn xn h = go (veil y x) (solved.veils y x yn xn) h
    where
      go : (z : ℕ) → (¬ (z ≡ 0) → z ≡ top) → z < top → z ≡ 0
      go zero f h = omega arith
      go (suc z) f h = absurd (omega (arith, f (λ q. omega arith)))

  pub start_at : (t b x : ℕ) → b ≡ t → t < n → x < n → road t b x ≡ veil t x
  start_at t b x e tn xn = rw e ((col t tn).start x xn)

  pub seen_at : (a t x : ℕ) → a < t → t < n → x < n → veil a x ≡ 0 →
      Least top (pays val (road t) x a) a (suc t) (road t a x)
  seen_at a t x lt tn xn h = (col t tn).seen a x (omega arith) lt xn h

  -- x sees the first corner of a road of its own, and the last
  pub road_first : (a t x : ℕ) → a ≤ t → t < n → x < n → road t a x < top → veil a x ≡ 0
  road_first a t x at tn xn h = go (dec_lt a t) (dec_lt (veil a x) top)
    where
      go : Dec (a < t) → Dec (veil a x < top) → veil a x ≡ 0
      go d (yes q) = lifted a x (omega arith) xn q
      go (yes p) (no q) = absurd (omega (arith, (col t tn).unseen a x (omega arith) p xn (λ z. omega arith)))
      go (no p) (no q) =
          let e : t ≡ a = omega arith in
          absurd (omega (arith, subst (λ (k : ℕ). road t a x ≡ veil k x) e (start_at t a x (omega arith) tn xn)))

  road_last' : (f a t x : ℕ) → a ≤ t → t < n → x < n → t ≤ a + f → road t a x < top → veil t x ≡ 0
  road_last' zero a t x at tn xn hf h = lifted t x tn xn (omega (arith, start_at t a x (omega arith) tn xn))
  road_last' (suc f) a t x at tn xn hf h = go (dec_lt a t) (λ b bt. road_last' f b t x bt tn xn)
    where
      go : Dec (a < t) → ((b : ℕ) → b ≤ t → t ≤ b + f → road t b x < top → veil t x ≡ 0) → veil t x ≡ 0
      go (no p) k = lifted t x tn xn (omega (arith, start_at t a x (omega arith) tn xn))
      go (yes p) k =
          let c = (seen_at a t x p tn xn (road_first a t x at tn xn h)).hit h in
          k c.0 (omega (arith, c.2)) (omega (arith, c.1)) (omega (arith, c.3))

  pub road_last : (a t x : ℕ) → a ≤ t → t < n → x < n → road t a x < top → veil t x ≡ 0
  road_last a t x at tn xn h = road_last' t a t x at tn xn (omega arith) h

  -- ---- the value of a line, with the roads themselves in the place of left
  pub best_of : (i j : ℕ) → suc i < j → j < n → Closes cut n i j →
      LeastOver top w veil val (road j) (λ x. road x i x + road j x x) i j (val i j)
  best_of i j ij jn c =
      let b = ((solved.columns j jn).value i (omega arith) (omega arith)).shut ij c in
      record {
        low = b.low;
        mid = b.mid;
        high = b.high;
        low_is = b.low_is;
        mid_is = least_same
            (λ x p q. ap (λ (z : ℕ). z + road j x x)
            (sym ((solved.columns x (omega arith)).lefts i (omega arith) (omega arith))))
            (omega arith) b.mid_is;
        high_is = b.high_is;
        is = b.is;
      }

  -- ---- small
  unfoldable Bound : ℕ → ℕ → Type 0
  Bound i j =
      (val i j < top → val i j + scale i + heaviest ≤ scale j) ×
      ((x : ℕ) → x < n → road j i x < top → road j i x + scale i + heaviest ≤ scale j)

  -- the bounds of the lines within i j, from i and to j
  unfoldable Within : ℕ → ℕ → Type 0
  Within i j = (b : ℕ) → i < b → b < j → Bound i b × Bound b j

  step_small' : (i j x r : ℕ) → Within i j → x < n → r < top → Least top (pays val (road j) x i) i j r →
      r + scale i + heaviest + heaviest ≤ scale j
  unfolding Bound Within
  step_small' i j x r W xn h l =
      let c = l.hit h in
      let k = W c.0 c.1 c.2 in
      omega (arith, c.3, k.0.0 (omega (arith, c.3)), k.1.1 x xn (omega (arith, c.3)))

  best_small : (i j v : ℕ) → i < j → j < n → Within i j →
      LeastOver top w veil val (road j) (λ x. road x i x + road j x x) i j v → v < top →
      v + scale i + heaviest ≤ scale j
  unfolding Bound Within
  best_small i j v ij jn W b h = go (min_hit top v (w i j) b.mid (b.low + veil i i) (b.high + veil i j) b.is h)
    where
      light : w i j ≤ heaviest
      light = solved.light.light i j ij jn

      go : (v ≡ w i j + b.mid) ⊎ ((v ≡ w i j + (b.low + veil i i)) ⊎ (v ≡ w i j + (b.high + veil i j))) →
          v + scale i + heaviest ≤ scale j
      go (inl e) =
          let c = b.mid_is.hit (omega arith) in
          let k = W c.0 c.1 c.2 in
          let p = k.0.1 c.0 (omega (arith, c.2)) (omega (arith, c.3)) in
          let q = k.1.1 c.0 (omega (arith, c.2)) (omega (arith, c.3)) in
          omega (arith, c.3, p, q, light)
      go (inr (inl e)) =
          omega (
            arith,
            light,
            step_small' i j i b.low W (omega arith) (omega arith) b.low_is,
            lifted i i (omega arith) (omega arith) (omega arith),
          )
      go (inr (inr e)) =
          omega (
            arith,
            light,
            step_small' i j j b.high W jn (omega arith) b.high_is,
            lifted i j (omega arith) jn (omega arith),
          )

  closes : (i j : ℕ) → Dec (Closes cut n i j)
  closes i j = go (solved.cuts i j) (ℕ_discrete i 0) (ℕ_discrete (suc j) n)
    where
      go : Dec (cut i j) → Dec (i ≡ 0) → Dec (suc j ≡ n) → Dec (Closes cut n i j)
      go (yes q) d e = yes (inl q)
      go (no q) (yes p) (yes r) = yes (inr (p, r))
      go (no q) (no p) e = no (⊎_elim q (λ z. p z.0))
      go (no q) (yes p) (no r) = no (⊎_elim q (λ z. r z.1))

  pub value_at : (i j : ℕ) → i < j → j < n →
      Valued top w cut veil val (road j) (λ x. left i x + road j x x) n i j (val i j)
  value_at i j ij jn = (solved.columns j jn).value i (omega arith) ij

  val_small : (i j : ℕ) → i < j → j < n → Within i j → val i j < top → val i j + scale i + heaviest ≤ scale j
  val_small i j ij jn W h = go (dec_lt (suc i) j) (closes i j)
    where
      go : Dec (suc i < j) → Dec (Closes cut n i j) → val i j + scale i + heaviest ≤ scale j
      go (no p) d = omega (arith, (value_at i j ij jn).side (omega arith), solved.light.apart i j ij)
      go (yes p) (yes q) = best_small i j (val i j) ij jn W (best_of i j p jn q) h
      go (yes p) (no q) = absurd (omega (arith, (value_at i j ij jn).barred p q))

  road_small : (i j : ℕ) → i < j → j < n → Within i j → (val i j < top → val i j + scale i + heaviest ≤ scale j) →
      (x : ℕ) → x < n → road j i x < top → road j i x + scale i + heaviest ≤ scale j
  unfolding Bound Within
  road_small i j ij jn W U x xn h = at c.0 c.1 c.2 c.3 (dec_lt c.0 j)
    where
      c : (b : ℕ) × (i < b) × (b < suc j) × (road j i x ≡ pays val (road j) x i b)
      c = (seen_at i j x ij jn xn (road_first i j x (omega arith) jn xn h)).hit h

      at : (b : ℕ) → i < b → b < suc j → road j i x ≡ pays val (road j) x i b → Dec (b < j) →
          road j i x + scale i + heaviest ≤ scale j
      at b ib bj e (yes p) = let k = W b ib p in omega (arith, k.0.0 (omega arith), k.1.1 x xn (omega arith))
      at b ib bj e (no p) =
          let k : b ≡ j = omega arith in
          let q : road j i x ≡ pays val (road j) x i j = subst (λ (k : ℕ). road j i x ≡ pays val (road j) x i k) k e in
          let s = start_at j j x (omega arith) jn xn in
          omega (arith, lifted j x jn xn (omega arith), U (omega arith))

  all_small : (f i j : ℕ) → i < j → j < n → j ≤ i + f → Bound i j
  unfolding Bound Within
  all_small zero i j ij jn hf = absurd (omega arith)
  all_small (suc f) i j ij jn hf =
      let W : Within i j =
      λ b p q. (all_small f i b p (omega arith) (omega arith), all_small f b j q jn (omega arith)) in
      let U = val_small i j ij jn W in
      (U, road_small i j ij jn W U)

  within : (i j : ℕ) → j < n → Within i j
  unfolding Within
  within i j jn b p q = (all_small b i b p (omega arith) (omega arith), all_small j b j q jn (omega arith))

  -- the scale up to j leaves room below top
  ends : (j : ℕ) → j < n → scale j + heaviest < top
  ends j jn = omega (arith, solved.light.apart j n jn, solved.light.room)

  -- ---- so no sum was cut off
  pub step_fits : (a b t x : ℕ) → a < b → b ≤ t → t < n → x < n → val a b < top → road t b x < top →
      val a b + road t b x < top
  unfolding Bound
  step_fits a b t x ab bt tn xn h k = go (dec_lt b t)
    where
      p : val a b + scale a + heaviest ≤ scale b
      p = (all_small b a b ab (omega arith) (omega arith)).0 h

      go : Dec (b < t) → val a b + road t b x < top
      go (yes l) = omega (arith, p, (all_small t b t l tn (omega arith)).1 x xn k, ends t tn)
      go (no l) =
          let e = start_at t b x (omega arith) tn xn in
          omega (arith, p, lifted t x tn xn (omega arith), ends b (omega arith))

  pub through_fits : (i x j : ℕ) → i < x → x < j → j < n → road x i x < top → road j x x < top →
      w i j + (road x i x + road j x x) < top
  unfolding Bound
  through_fits i x j ix xj jn h k =
      omega (
        arith,
        (all_small x i x ix (omega arith) (omega arith)).1 x (omega arith) h,
        (all_small j x j xj jn (omega arith)).1 x (omega arith) k,
        ends j jn,
        solved.light.light i j (omega arith) jn,
      )

  pub end_fits : (i j x r : ℕ) → i < j → j < n → x < n → r < top → Least top (pays val (road j) x i) i j r →
      w i j + r < top
  end_fits i j x r ij jn xn h l =
      omega (arith, step_small' i j x r (within i j jn) xn h l, ends j jn, solved.light.light i j ij jn)
