-- The theorems of `Roads`: its definitions and first laws are in specs/.
use Rattle.std.specs.Prelude.{◌≡◌, refl, ◌⊎◌, List, [], ◌∷◌, ◌++◌, ℕ, zero, suc, ◌+◌, ◌≤◌, ◌<◌}
use Rattle.std.proofs.Common.{sym, inl, inr, arith}
use Rattle.std.proofs.Math.Decide.{dec_lt}
use Rattle.rules.specs.Lists.{In, in_left, rise_le}
use Rattle.rules.specs.Order.{Upto, tri}
use Rattle.rules.specs.Cheapest.{Cheapest, Steps, in_steps, in_parts}
use Rattle.rules.specs.Table.{Road, road_rise, sum}
use Rattle.rules.specs.Roads.{SeenRoad, SeenStep, path, path_end, path_more, road_head, road_join, road_reaches, road_split, sum_join}

module _ (way : ℕ → ℕ → Type 0) (val : ℕ → ℕ → ℕ) (see : ℕ → Type 0) where
  -- p is the first of the cheapest roads of seen corners from a to j whose first corner is below top
  abbrev pub BestRoad : ℕ → ℕ → ℕ → Type 0 → ℕ → List ℕ → Type 0
  BestRoad a j top h v p = Cheapest (SeenRoad way see a j top) (sum val a) (λ s. s) h v p

  -- ---- one step: v is the least of val a b + H b over the b below top, and b₀ the smallest b that attains it.
  -- has b says whether there is a road from b on, H b what the cheapest costs; h says whether there is such a b.
  pub record Step (has : ℕ → Type 0) (H : ℕ → ℕ) (a top : ℕ) (h : Type 0) (v b₀ : ℕ) : Type 0 where
    pub least : (b : ℕ) → a < b → b < top → way a b → see b → has b → h × (v ≤ val a b + H b)
    pub chosen : h → (a < b₀) × (b₀ < top) × way a b₀ × see b₀ × has b₀ × (v ≡ val a b₀ + H b₀)
    pub first : h → (b : ℕ) → a < b → b < b₀ → way a b → see b → has b → v < val a b + H b

  abbrev Next : ℕ → ℕ → ℕ → Type 0
  Next a top b = (a < b) × (b < top) × SeenStep way see a b

  step_cheapest : {has : ℕ → Type 0} {H : ℕ → ℕ} {a top : ℕ} {h : Type 0} {v b₀ : ℕ} → Step has H a top h v b₀ →
      Cheapest (λ b. Next a top b × has b) (λ b. val a b + H b) (λ b. b ∷ []) h v b₀
  step_cheapest {has} {H} {a} {top} {h} {v} {b₀} S = record {
    least = λ b p. S.least b p.0.0 p.0.1 p.0.2.0 p.0.2.1 p.1;
    attained = λ k. let c = S.chosen k in (((c.0, c.1, (c.2, c.3)), c.4), sym c.5);
    first = λ k b p le. go b (λ lt. S.first k b p.0.0 lt p.0.2.0 p.0.2.1 p.1) le (tri b₀ b);
  }
    where
      go : (b : ℕ) → (b < b₀ → v < val a b + H b) → val a b + H b ≤ v → (b₀ < b) ⊎ ((b₀ ≡ b) ⊎ (b < b₀)) →
          Upto b₀ b (b₀ ∷ []) (b ∷ [])
      go b f le (inl lt) = inr (inl lt)
      go b f le (inr (inl e)) = inl e
      go b f le (inr (inr lt)) = absurd (omega (arith, f lt))

  road_steps : (a j top : ℕ) → a < j →
      Steps (Next a top) (val a) (λ b. b ∷ []) (λ b. SeenRoad way see b j (suc j)) (sum val) (λ b s. s)
      ◌∷◌ (SeenRoad way see a j top) (sum val a) (λ s. s) []
  road_steps a j top lt = record {
    splits = splits;
    joins = λ b s p q. ((p.0, p.2, q.0), p.1);
    costs = λ b s p q. refl;
    runs = λ b s p q. refl;
  }
    where
      splits : (s : List ℕ) → SeenRoad way see a j top s →
          (b : ℕ) × (t : List ℕ) × Next a top b × SeenRoad way see b j (suc j) t × (s ≡ b ∷ t)
      splits [] p = absurd (omega (arith, p.0))
      splits (b ∷ s) p =
          (b, s, (p.0.0, p.1, p.0.1), (p.0.2, road_head (SeenStep way see) b j s p.0.2), refl)

  -- the step, and the best road from there
  pub step_road : {has : ℕ → Type 0} {H : ℕ → ℕ} {q : ℕ → List ℕ} {a j top : ℕ} {h : Type 0} {v b₀ : ℕ} →
      a < j → top ≤ suc j →
      ((b : ℕ) → a < b → b ≤ j → see b → BestRoad b j (suc j) (has b) (H b) (q b)) →
      Step has H a top h v b₀ → BestRoad a j top h v (b₀ ∷ q b₀)
  step_road {has} {H} {q} {a} {j} {top} lt le F S =
      in_steps (road_steps a j top lt) (λ b p. F b p.0 (omega (arith, p.1)) p.2.1) (step_cheapest S)

  -- at the end the road is empty
  end_road : (j : ℕ) (h : Type 0) (v : ℕ) → h → v ≡ 0 → BestRoad j j (suc j) h v []
  end_road j h v k e = record {
    least = λ s p. (k, omega arith);
    attained = λ k. ((refl, tt), sym e);
    first = λ k s p le. only s p.0;
  }
    where
      only : (s : List ℕ) → Road (SeenStep way see) j j s → Upto [] s [] s
      only [] r = inl refl
      only (b ∷ s) r = absurd (omega (arith, r.0, rise_le b j s (road_rise (SeenStep way see) b j s r.2)))

  -- ---- the table for one end j that is seen: a step at each seen corner from lo on
  pub record Tails (lo j : ℕ) (has : ℕ → Type 0) (H next : ℕ → ℕ) : Type 0 where
    pub end_has : has j
    pub end_val : H j ≡ 0
    pub step : (a : ℕ) → lo ≤ a → a < j → see a → Step has H a (suc j) (has a) (H a) (next a)

  module _ {lo j : ℕ} {has : ℕ → Type 0} {H next : ℕ → ℕ} (t : Tails lo j has H next) where
    tails_end : (f a : ℕ) → a ≡ j → BestRoad a j (suc j) (has a) (H a) (path next j f a)
    tails_end f a e = rw (e, path_end next j f j (omega arith)) (end_road j (has j) (H j) t.end_has t.end_val)

    pub tails_road : (f a : ℕ) → lo ≤ a → a ≤ j → j ≤ a + f → see a →
        BestRoad a j (suc j) (has a) (H a) (path next j f a)
    tails_road zero a la le hf sa = tails_end zero a (omega arith)
    tails_road (suc f) a la le hf sa = go (dec_lt a j) (tails_road f)
      where
        go : Dec (a < j) →
            ((b : ℕ) → lo ≤ b → b ≤ j → j ≤ b + f → see b → BestRoad b j (suc j) (has b) (H b) (path next j f b)) →
            BestRoad a j (suc j) (has a) (H a) (path next j (suc f) a)
        go (no ge) F = tails_end (suc f) a (omega arith)
        go (yes lt) F =
            rw (path_more next j f a lt)
            (step_road lt (omega arith) (λ b p q sb. F b (omega arith) q (omega arith) sb) (t.step a la lt sa))

  -- ---- through a corner x: the best road to x, then the best from x on
  through_steps : (a x j : ℕ) → a < x →
      Steps (SeenRoad way see a x (suc x)) (sum val a) (λ s. s) (λ s. SeenRoad way see x j (suc j))
      (λ s. sum val x) (λ s t. t)
      ◌++◌ (λ s. Road (SeenStep way see) a j s × In x s) (sum val a) (λ s. s) []
  through_steps a x j lt = record {
    splits = λ s p.
        let q = road_split (SeenStep way see) a x j s p.0 p.1 in (
          q.0,
          q.1,
          (q.2, road_head (SeenStep way see) a x q.0 q.2),
          (q.3, road_head (SeenStep way see) x j q.1 q.3),
          q.4,
        );
    joins = λ s t p q. (
      road_join (SeenStep way see) a x j s t p.0 q.0,
      in_left x s t (road_reaches (SeenStep way see) a x s lt p.0),
    );
    costs = λ s t p q. sum_join (SeenStep way see) val a x s t p.0;
    runs = λ s t p q. refl;
  }

  pub through : {a x j : ℕ} {h₁ h₂ : Type 0} {v₁ v₂ : ℕ} {p₁ p₂ : List ℕ} → a < x →
      BestRoad a x (suc x) h₁ v₁ p₁ → BestRoad x j (suc j) h₂ v₂ p₂ →
      Cheapest (λ s. Road (SeenStep way see) a j s × In x s) (sum val a) (λ s. s) (h₁ × h₂) (v₁ + v₂) (p₁ ++ p₂)
  through {a} {x} {j} lt F G = in_parts (through_steps a x j lt) F G
