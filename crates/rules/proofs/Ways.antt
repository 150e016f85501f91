-- The theorems of `Ways`: its definitions and first laws are in specs/.
use Rattle.std.specs.Prelude.{◌≡◌, ℕ, suc, ◌+◌, ◌<◌, ◌≤◌, min}
use Rattle.std.proofs.Common.{inl, inr, arith}
use Rattle.std.proofs.Math.Decide.{dec_lt}
use Rattle.rules.specs.Table.{Way, Closes}
use Rattle.rules.specs.Roads.{path}
use Rattle.rules.proofs.Roads.{Step, Tails, BestRoad, tails_road}
use Rattle.rules.specs.Columns.{pays, costs, Least, Solved}
use Rattle.rules.specs.Choice.{Sought, step_of}
use Rattle.rules.specs.Seek.{sought_attains, step_is}
use Rattle.rules.specs.Small.{road_first, value_at, start_at, seen_at, step_fits}
use Rattle.rules.specs.Ways.{May, Sees}

module _ {top : ℕ} {w : ℕ → ℕ → ℕ} {cut : ℕ → ℕ → Type 0} {veil val left : ℕ → ℕ → ℕ} {road : ℕ → ℕ → ℕ → ℕ} {n : ℕ}
    (solved : Solved top w cut veil val left road n) where
  abbrev ways : ℕ → ℕ → Type 0
  ways = Way cut (May top val)

  way_value : (a b : ℕ) → a < b → b < n → ways a b → val a b < top
  way_value a b ab bn (inl e) = omega (arith, (value_at solved a b ab bn).side (omega arith), solved.light.room)
  way_value a b ab bn (inr h) = h.1

  -- the line from the first corner to the last has a value of its own, and is no cut
  value_way : (a b : ℕ) → a < b → b < n → (a ≡ 0 → suc b < n) → val a b < top → ways a b
  value_way a b ab bn ne h = go (dec_lt (suc a) b) (solved.cuts a b)
    where
      inner : ¬ cut a b → Closes cut n a b → ⊥
      inner q (inl z) = q z
      inner q (inr z) = omega (arith, z.1, ne z.0)

      go : Dec (suc a < b) → Dec (cut a b) → ways a b
      go (no p) d = inl (omega arith)
      go (yes p) (yes q) = inr (q, h)
      go (yes p) (no q) = absurd (omega (arith, (value_at solved a b ab bn).barred p (inner q)))

  -- the least over the first steps below hi is a step of the theory, where its smallest next corner is the one that is
  -- searched for
  pub stepping : (a t hi x v s : ℕ) → a < t → t < n → hi ≤ suc t → (a ≡ 0 → hi < n) → x < n →
      Least top (pays val (road t) x a) a hi v → Sought (costs top val (road t) x a) v a t s →
      Step ways val (Sees veil x) (λ b. road t b x < top) (λ b. road t b x) a hi (v < top) v s
  stepping a t hi x v s at tn ht ne xn l S = record {
    least = λ b ab bt w sb hb.
        let p = step_fits solved a b t x ab (omega arith) tn xn (way_value a b ab (omega arith) w) hb in
        let o = l.low b bt ab in
        (omega (arith, p, o), o);
    chosen = λ h.
        let c = l.hit h in
        let q = sought_attains (costs top val (road t) x a) v S c.1 (omega (arith, c.2)) (omega (arith, c.3)) in
        chosen h (omega (arith, c.2, q.0)) q.1;
    first = λ h b ab bs w sb hb.
        let c = l.hit h in
        let q = sought_attains (costs top val (road t) x a) v S c.1 (omega (arith, c.2)) (omega (arith, c.3)) in
        above h (pays val (road t) x a b) (l.low b (omega (arith, c.2, q.0)) ab) (S.before b bs ab);
  }
    where
      above : v < top → (z : ℕ) → v ≤ z → ¬ (min top z ≡ v) → v < z
      above k z p q = go (dec_lt v z)
        where
          go : Dec (v < z) → v < z
          go (yes h) = h
          go (no h) = absurd (q (omega arith))

      chosen : v < top → s < hi → costs top val (road t) x a s ≡ v →
          (a < s) × (s < hi) × ways a s × Sees veil x s × (road t s x < top) × (v ≡ val a s + road t s x)
      chosen h p e =
          let f = S.from in
          let g : road t s x < top = omega arith in (
            f,
            p,
            value_way a s f (omega arith) (λ z. omega (arith, ne z)) (omega arith),
            road_first solved s t x (omega arith) tn xn g,
            g,
            omega arith,
          )

  tails : (lo t x : ℕ) → t < n → (lo ≡ 0 → suc t < n) → x < n → Sees veil x t →
      Tails ways val (Sees veil x) lo t (λ b. road t b x < top) (λ b. road t b x) (step_of top val (road t) x t)
  tails lo t x tn ne xn st =
      let e = start_at solved t t x (omega arith) tn xn in
      record {
        end_has = omega (arith, solved.light.room);
        end_val = omega arith;
        step = λ a la lt sa.
            stepping a t (suc t) x (road t a x) (step_of top val (road t) x t a) lt tn (omega arith)
            (λ z. ne (omega arith)) xn
            (seen_at solved a t x lt tn xn sa)
            (step_is top val (road t) x t a lt);
      }

  -- the best road of x from a to t, where that is not the whole way from the first corner to the last
  pub best_road : (lo t x f a : ℕ) → t < n → (lo ≡ 0 → suc t < n) → x < n → Sees veil x t → Sees veil x a → lo ≤ a →
      a ≤ t → t ≤ a + f →
      BestRoad ways val (Sees veil x) a t (suc t) (road t a x < top) (road t a x)
      (path (step_of top val (road t) x t) t f a)
  best_road lo t x f a tn ne xn st sa la at hf =
      tails_road ways val (Sees veil x) (tails lo t x tn ne xn st) f a la at hf sa
