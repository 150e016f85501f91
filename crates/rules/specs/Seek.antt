-- The next corner of a road, searched for: what is found is the first corner whose step and rest cost what the road
-- costs, and nothing else is.
use Rattle.std.specs.Prelude.{◌≡◌, refl, Bool, true, false, ◌⊎◌, ℕ, zero, suc, ◌+◌, ◌-◌, ◌<◌, ◌≤◌, min, eqb}
use Rattle.std.proofs.Common.{sym, subst, ap, ◌∙◌, inl, inr, arith, lt-ltb, le-ltb, eqb-true}
use Rattle.std.proofs.Math.Decide.{dec_lt}
use Rattle.std.proofs.lemmas.Bool.{eqb-false}
use Rattle.rules.specs.Order.{tri}
use Rattle.rules.specs.Columns.{costs}
use Rattle.rules.specs.Choice.{Sought, sought, step_of, next_of}

-- ---- the search
module _ (f : ℕ → ℕ) (r : ℕ) where
  sought_is : (b k : ℕ) → Sought f r b (suc b + k) (sought f r (suc b) k)
  sought_is b zero =
      record {
        from = omega arith;
        to = omega arith;
        before = λ k p q. absurd (omega arith);
        hit = λ h. absurd (omega arith);
      }
  sought_is b (suc k) = go (eqb (f (suc b)) r) refl (sought_is (suc b) k)
    where
      go : (t : Bool) → eqb (f (suc b)) r ≡ t → Sought f r (suc b) (suc (suc b) + k) (sought f r (suc (suc b)) k) →
          Sought f r b (suc b + suc k) (elim t [ true ↦ suc b | false ↦ sought f r (suc (suc b)) k ])
      go true e l =
          record {
            from = omega arith;
            to = omega arith;
            before = λ k p q. absurd (omega arith);
            hit = λ h. eqb-true (f (suc b)) r e;
          }
      go false e l =
          record {
            from = omega (arith, l.from);
            to = omega (arith, l.to);
            before = before;
            hit = λ h. l.hit (omega arith);
          }
        where
          before : (c : ℕ) → c < sought f r (suc (suc b)) k → b < c → ¬ (f c ≡ r)
          before c p q = or (dec_lt (suc b) c)
            where
              or : Dec (suc b < c) → ¬ (f c ≡ r)
              or (yes l₁) = l.before c p l₁
              or (no l₁) =
                  let z : c ≡ suc b = omega arith in
                  λ y. eqb-false (f (suc b)) r e (subst (λ (u : ℕ). f u ≡ r) z y)

  pub sought_from : (c t : ℕ) → c < t → Sought f r c t (sought f r (suc c) (t - suc c))
  sought_from c t h =
      let e : suc c + (t - suc c) ≡ t = omega arith in
      subst (λ (u : ℕ). Sought f r c u (sought f r (suc c) (t - suc c))) e (sought_is c (t - suc c))

  pub sought_unique : {c t s s' : ℕ} → Sought f r c t s → Sought f r c t s' → s ≡ s'
  sought_unique {s} {s'} p q = go (tri s s')
    where
      go : (s < s') ⊎ ((s ≡ s') ⊎ (s' < s)) → s ≡ s'
      go (inl l) = absurd (q.before s l p.from (p.hit (omega (arith, q.to))))
      go (inr (inl e)) = e
      go (inr (inr l)) = absurd (p.before s' l q.from (q.hit (omega (arith, p.to))))

  -- what attains r bounds what is found
  pub sought_attains : {a t c s : ℕ} → Sought f r a t s → a < c → c ≤ t → f c ≡ r → (s ≤ c) × (f s ≡ r)
  sought_attains {t} {c} {s} S ac ct e = go (dec_lt c s) (dec_lt s t)
    where
      go : Dec (c < s) → Dec (s < t) → (s ≤ c) × (f s ≡ r)
      go (yes p) d = absurd (S.before c p ac e)
      go (no p) (yes q) = (omega arith, S.hit q)
      go (no p) (no q) = let k : c ≡ s = omega (arith, S.to) in (omega arith, subst (λ (u : ℕ). f u ≡ r) k e)

-- another costs the same, from c on to t
pub sought_same : {f g : ℕ → ℕ} {r r' c t s : ℕ} → ((k : ℕ) → c < k → k ≤ t → g k ≡ f k) → r' ≡ r → Sought f r c t s →
    Sought g r' c t s
sought_same e q S = record {
  from = S.from;
  to = S.to;
  before = λ k p h z. S.before k p h (sym (e k h (omega (arith, S.to))) ∙ z ∙ q);
  hit = λ h. e _ S.from S.to ∙ S.hit h ∙ sym q;
}

-- ---- the next corner
module _ (top : ℕ) (val side : ℕ → ℕ → ℕ) (x t c : ℕ) where
  pub step_is : c < t → Sought (costs top val side x c) (side c x) c t (step_of top val side x t c)
  unfolding step_of
  step_is h = sought_from (costs top val side x c) (side c x) c t h

-- by costs that are the same from c to t
pub step_same : (top : ℕ) (val side side' : ℕ → ℕ → ℕ) (x t c : ℕ) → c < t →
    ((b : ℕ) → c ≤ b → b ≤ t → side' b x ≡ side b x) → step_of top val side' x t c ≡ step_of top val side x t c
step_same top val side side' x t c h e =
    sought_unique (costs top val side x c) (side c x)
    (sought_same (λ k p q. ap (λ (z : ℕ). min top (val c k + z)) (sym (e k (omega arith) q)))
    (sym (e c (omega arith) (omega arith)))
    (step_is top val side' x t c h))
    (step_is top val side x t c h)

module _ (top : ℕ) (w val left col : ℕ → ℕ → ℕ) (x j c : ℕ) where
  pub next_left : c < x → next_of top w val left col x j c ≡ step_of top val left x x c
  unfolding next_of
  next_left l = rw (lt-ltb c x l, next_of)

  pub next_right : x ≤ c → next_of top w val left col x j c ≡ step_of top val col x j c
  unfolding next_of
  next_right l = rw (le-ltb c x l, next_of)
