-- The first of the cheapest: of all things that P allows, one of the least cost, and of these the first by its run of
-- numbers. It may be found in two steps (`in_steps`): for every way to begin keep the best way to go on, then take the
-- best beginning. Trees, roads and pieces are all found so; it is why tables can be filled from narrow ranges to wide
-- ones.
use Rattle.std.specs.Prelude.{◌≡◌, List, ◌++◌, ℕ, ◌+◌, ◌≤◌}
use Rattle.std.proofs.Common.{ap, subst, inl, inr, arith}
use Rattle.rules.specs.Cutting.{Less}
use Rattle.rules.specs.Order.{Upto, upto_antisym, less_trans, less_append, less_prepend}

pub upto_trans : {A : Type 0} (run : A → List ℕ) (p q s : A) →
    Upto p q (run p) (run q) → Upto q s (run q) (run s) → Upto p s (run p) (run s)
upto_trans run p q s (inl e) k = rw e k
upto_trans run p q s (inr l) (inl e) = inr (subst (λ z. Less (run p) (run z)) e l)
upto_trans run p q s (inr l) (inr m) = inr (less_trans (run p) (run q) (run s) l m)

module _ {A : Type 0} where
  -- h says whether there is one, v what it costs, and p is the one
  pub record Cheapest (P : A → Type 0) (cost : A → ℕ) (run : A → List ℕ) (h : Type 0) (v : ℕ) (p : A) : Type 0 where
    pub least : (s : A) → P s → h × (v ≤ cost s)
    pub attained : h → P p × (cost p ≡ v)
    pub first : h → (s : A) → P s → cost s ≤ v → Upto p s (run p) (run s)

  module _ {P : A → Type 0} {cost : A → ℕ} {run : A → List ℕ} {h : Type 0} {v : ℕ} where
    pub cheapest_unique : {p q : A} → Cheapest P cost run h v p → Cheapest P cost run h v q → h → p ≡ q
    cheapest_unique {p} {q} c d k =
        let x = c.attained k in
        let y = d.attained k in
        upto_antisym p q (run p) (run q)
        (c.first k q y.0 (omega (arith, y.1)))
        (d.first k p x.0 (omega (arith, x.1)))

    -- what each of them shows may be assumed
    pub cheapest_when : {p : A} {Q : Type 0} → (h → Q) → ((s : A) → P s → Q) →
        (Q → Cheapest P cost run h v p) → Cheapest P cost run h v p
    cheapest_when f g c = record {
      least = λ s k. (c (g s k)).least s k;
      attained = λ k. (c (f k)).attained k;
      first = λ k. (c (f k)).first k;
    }

    -- the same things in other words
    pub cheapest_map : {p : A} {P' : A → Type 0} {h' : Type 0} → (h → h') → (h' → h) →
        ((s : A) → P s → P' s) → ((s : A) → P' s → P s) → Cheapest P cost run h v p → Cheapest P' cost run h' v p
    cheapest_map {p} up down to from c = record {
      least = λ s k. let l = c.least s (from s k) in (up l.0, l.1);
      attained = λ k. let a = c.attained (down k) in (to p a.0, a.1);
      first = λ k s m. c.first (down k) s (from s m);
    }

    -- beside something else that costs c
    beside : {p : A} (g : Type 0) (c : ℕ) → Cheapest P cost run h v p →
        Cheapest (λ s. P s × g) (λ s. cost s + c) run (h × g) (v + c) p
    beside g c x = record {
      least = λ s k. let l = x.least s k.0 in ((l.0, k.1), omega (arith, l.1));
      attained = λ k. let a = x.attained k.0 in ((a.0, k.1), omega (arith, a.1));
      first = λ k s m l. x.first k.0 s m.0 (omega arith);
    }

-- ---- in two steps
-- What R allows is made by a step a that P allows and a step b that Q allows after a. The costs add up, and the run of
-- a comes before the run of b, both after a front that is the same for all.
pub record Steps {A B C : Type 0} (P : A → Type 0) (k : A → ℕ) (r : A → List ℕ) (Q : A → B → Type 0) (d : A → B → ℕ)
    (r' : A → B → List ℕ)
    (join : A → B → C) (R : C → Type 0) (cost : C → ℕ) (run : C → List ℕ) (front : List ℕ) : Type 0 where
  pub splits : (t : C) → R t → (a : A) × (b : B) × P a × Q a b × (t ≡ join a b)
  pub joins : (a : A) (b : B) → P a → Q a b → R (join a b)
  pub costs : (a : A) (b : B) → P a → Q a b → cost (join a b) ≡ k a + d a b
  pub runs : (a : A) (b : B) → P a → Q a b → run (join a b) ≡ front ++ (r a ++ r' a b)

module _ {A B C : Type 0} {P : A → Type 0} {k : A → ℕ} {r : A → List ℕ} {Q : A → B → Type 0} {d : A → B → ℕ}
    {r' : A → B → List ℕ}
    {join : A → B → C} {R : C → Type 0} {cost : C → ℕ} {run : C → List ℕ} {front : List ℕ}
    (S : Steps P k r Q d r' join R cost run front) where
  -- has a says whether one can go on after a, H a what that costs at least, and q a is the best way
  pub in_steps : {has : A → Type 0} {H : A → ℕ} {q : A → B} {h : Type 0} {v : ℕ} {p : A} →
      ((a : A) → P a → Cheapest (Q a) (d a) (r' a) (has a) (H a) (q a)) →
      Cheapest (λ a. P a × has a) (λ a. k a + H a) r h v p → Cheapest R cost run h v (join p (q p))
  in_steps {has} {H} {q} {h} {v} {p} inner outer = record {
    least = λ t m.
        let o = S.splits t m in
        let i = (inner o.0 o.2).least o.1 o.3 in
        let l = outer.least o.0 (o.2, i.0) in
        (l.0, omega (arith, i.1, l.1, S.costs o.0 o.1 o.2 o.3, ap cost o.4));
    attained = λ m.
        let o = outer.attained m in
        let i = (inner p o.0.0).attained o.0.1 in
        (S.joins p (q p) o.0.0 i.0, omega (arith, o.1, i.1, S.costs p (q p) o.0.0 i.0));
    first = λ m t n le. let o = S.splits t n in
        rw o.4 (wins m o.0 o.1 o.2 o.3 (omega (arith, le, ap cost o.4)));
  }
    where
      Wins : A → B → Type 0
      Wins a b = Upto (join p (q p)) (join a b) (run (join p (q p))) (run (join a b))

      wins : h → (a : A) (b : B) → P a → Q a b → cost (join a b) ≤ v → Wins a b
      wins m a b x y le =
          let i = (inner a x).least b y in
          go (outer.first m a (x, i.0) (omega (arith, le, S.costs a b x y, i.1)))
        where
          o : (P p × has p) × (k p + H p ≡ v)
          o = outer.attained m

          earlier : (a : A) (b : B) → P a → Q a b → Less (r p ++ r' p (q p)) (r a ++ r' a b) →
              Less (run (join p (q p))) (run (join a b))
          earlier a b x y l =
              let z = ((inner p o.0.0).attained o.0.1).0 in
              rw (S.runs p (q p) o.0.0 z, S.runs a b x y)
              (less_prepend front (r p ++ r' p (q p)) (r a ++ r' a b) l)

          -- of two that begin alike, the second steps decide
          alike : (b : B) → P p → Q p b → Upto (q p) b (r' p (q p)) (r' p b) → Wins p b
          alike b x y (inl e) = inl (ap (join p) e)
          alike b x y (inr l) = inr (earlier p b x y (less_prepend (r p) (r' p (q p)) (r' p b) l))

          same : (b : B) → P p → Q p b → cost (join p b) ≤ v → Wins p b
          same b x y le = alike b x y ((inner p x).first o.0.1 b y (omega (arith, le, o.1, S.costs p b x y)))

          go : Upto p a (r p) (r a) → Wins a b
          go (inl e) = subst (λ a. (b : B) → P a → Q a b → cost (join a b) ≤ v → Wins a b) e same b x y le
          go (inr l) = inr (earlier a b x y (less_append (r p) (r a) (r' p (q p)) (r' a b) l))

-- two steps that do not depend on each other
pub in_parts : {A B C : Type 0} {P : A → Type 0} {k : A → ℕ} {r : A → List ℕ} {Q : B → Type 0}
    {d : B → ℕ} {r' : B → List ℕ}
    {join : A → B → C} {R : C → Type 0} {cost : C → ℕ} {run : C → List ℕ} {front : List ℕ} →
    Steps P k r (λ a. Q) (λ a. d) (λ a. r') join R cost run front → {h h' : Type 0} {v v' : ℕ} {p : A} {q : B} →
    Cheapest P k r h v p → Cheapest Q d r' h' v' q → Cheapest R cost run (h × h') (v + v') (join p q)
in_parts S {h} {h'} {v} {v'} c e = in_steps S (λ a x. e) (beside h' v' c)
