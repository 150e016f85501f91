-- Two drawings are partners when they have equally many corners, each corner i of the second has a partner τ i in the
-- first, τ is one to one and goes round the outline as `next` does, and a relation that keeps what 01 asks of points
-- ties partners together. Then the second is simple where the first is, and its corners see each other where their
-- partners do. The way back is the same theorem, exchanged.
use Rattle.std.specs.Prelude.{◌≡◌, refl, ◌⊎◌, ◌↔◌, List, ℕ, ◌<◌, ℤ}
use Rattle.std.proofs.Common.{sym, ◌∙◌, ap, subst, inl, inr, ⊎_elim}
use Rattle.std.proofs.Math.Path.{transport, transport⁻¹}
use Rattle.outline.specs.Drawing.{Point, corner, corners, next, prev, Shared, SharedOnlyAt, Simple}
use Rattle.outline.specs.Drawing.{InsideAngle, EndsAt, Beside, Clear, Sees}
use Rattle.outline.specs.Round.{next_below, prev_below, prev_next, next_prev}

-- k is the partner of i
abbrev Partner : (ℕ → ℕ) → List ℤ → ℕ → ℕ → Type 0
Partner τ d k i = (i < corners d) × (k ≡ τ i)

module _ (◌~◌ : Point → Point → Type 0) where
  infix 40 ◌~◌
  -- a relation of points that keeps what the definitions ask of points
  pub record Keeps : Type 0 where
    pub apart : {a b a' b' : Point} → a ~ a' → b ~ b' → a' ≡ b' → a ≡ b
    pub no_more_shared : {a b c d a' b' c' d' : Point} → a ~ a' → b ~ b' → c ~ c' → d ~ d' →
        Shared a' b' c' d' → Shared a b c d
    pub only : {e a b c d e' a' b' c' d' : Point} → e ~ e' → a ~ a' → b ~ b' → c ~ c' → d ~ d' →
        SharedOnlyAt e a b c d → SharedOnlyAt e' a' b' c' d'
    pub inside : {p i q j p' i' q' j' : Point} → p ~ p' → i ~ i' → q ~ q' → j ~ j' → InsideAngle p i q j →
        InsideAngle p' i' q' j'

  -- corner i of d' has the partner τ i of d
  pub record Partners (τ : ℕ → ℕ) (d d' : List ℤ) : Type 0 where
    pub keeps : Keeps
    pub many : corners d' ≡ corners d
    pub below : (i : ℕ) → i < corners d → τ i < corners d
    pub one_to_one : (i j : ℕ) → i < corners d → j < corners d → τ i ≡ τ j → i ≡ j
    pub round : (i : ℕ) → i < corners d → τ (next (corners d) i) ≡ next (corners d) (τ i)
    pub tied : (i : ℕ) → i < corners d → corner d (τ i) ~ corner d' i

-- equality is such a relation
pub keeps_same : Keeps (λ p q. p ≡ q)
keeps_same = record {
  apart = λ h g e. h ∙ e ∙ sym g;
  no_more_shared = λ h g k l. transport⁻¹ (λ i. Shared (h i) (g i) (k i) (l i));
  only = λ o h g k l. transport (λ i. SharedOnlyAt (o i) (h i) (g i) (k i) (l i));
  inside = λ h g k l. transport (λ i. InsideAngle (h i) (g i) (k i) (l i));
}

module _ (◌~◌ : Point → Point → Type 0) (τ : ℕ → ℕ) (d d' : List ℤ) (al : Partners ◌~◌ τ d d') where
  infix 40 ◌~◌
  own : (i : ℕ) → i < corners d' → Partner τ d (τ i) i
  own i h = (subst (λ m. i < m) al.many h, refl)

  partner_below : {k i : ℕ} → Partner τ d k i → k < corners d
  partner_below {k} {i} h = subst (λ m. m < corners d) (sym h.1) (al.below i h.0)

  partner_next : {k i : ℕ} → Partner τ d k i → Partner τ d (next (corners d) k) (next (corners d') i)
  partner_next {k} {i} h =
      subst (λ m. Partner τ d (next (corners d) k) (next m i)) (sym al.many)
      (next_below (corners d) i h.0, ap (next (corners d)) h.1 ∙ sym (al.round i h.0))

  -- τ goes round with `prev` because it does with `next`
  partner_prev : {k i : ℕ} → Partner τ d k i → Partner τ d (prev (corners d) k) (prev (corners d') i)
  partner_prev {k} {i} h =
      subst (λ m. Partner τ d (prev (corners d) k) (prev m i)) (sym al.many) (
        low,
        ap (prev (corners d)) (h.1 ∙ ap τ (sym (next_prev (corners d) i h.0)) ∙ al.round (prev (corners d) i) low)
            ∙ prev_next (corners d) (τ (prev (corners d) i)) (al.below (prev (corners d) i) low),
      )
    where
      low : prev (corners d) i < corners d
      low = prev_below (corners d) i h.0

  tie : {k i : ℕ} → Partner τ d k i → corner d k ~ corner d' i
  tie {k} {i} h = subst (λ m. corner d m ~ corner d' i) (sym h.1) (al.tied i h.0)

  -- partners of the same corner are the same, and back
  same : {k i l j : ℕ} → Partner τ d k i → Partner τ d l j → (k ≡ l) ↔ (i ≡ j)
  same {k} {i} {l} {j} h g = (
    λ e. al.one_to_one i j h.0 g.0 (sym h.1 ∙ e ∙ g.1),
    λ e. h.1 ∙ ap τ e ∙ sym g.1,
  )

  pub partners_simple : Simple d → Simple d'
  partners_simple s = record {
    two_ends = λ i h e. s.two_ends (τ i) (partner_below (own i h))
        (al.keeps.apart (tie (own i h)) (tie (partner_next (own i h))) e);
    neighbours = λ i h.
        let p = own i h in
        let q = partner_next p in
        al.keeps.only (tie q) (tie p) (tie q) (tie q) (tie (partner_next q)) (s.neighbours (τ i) (partner_below p));
    others = λ i j h g u v w z.
        let p = own i h in
        let q = own j g in
        s.others (τ i) (τ j) (partner_below p) (partner_below q) (λ e. u ((same p q).0 e))
        (λ e. v ((same (partner_next p) q).0 e))
        (λ e. w ((same (partner_next q) p).0 e))
        (al.keeps.no_more_shared (tie p) (tie (partner_next p)) (tie q) (tie (partner_next q)) z);
  }

  ends : {m k i l : ℕ} → Partner τ d m k → Partner τ d l i → EndsAt d m l ↔ EndsAt d' k i
  ends p q = (
    ⊎_elim (λ e. inl ((same p q).0 e)) (λ e. inr ((same (partner_next p) q).0 e)),
    ⊎_elim (λ e. inl ((same p q).1 e)) (λ e. inr ((same (partner_next p) q).1 e)),
  )

  module _ {k i l j : ℕ} (p : Partner τ d k i) (q : Partner τ d l j) where
    clear : Clear d k l → Clear d' i j
    clear c = record {
      others = λ m h u v z.
          let o = own m h in
          c.others (τ m) (partner_below o) (λ e. u ((ends o p).0 e)) (λ e. v ((ends o q).0 e))
          (al.keeps.no_more_shared (tie p) (tie q) (tie o) (tie (partner_next o)) z);
      ends_at_i = λ m h e.
          let o = own m h in
          al.keeps.only (tie p) (tie p) (tie q) (tie o) (tie (partner_next o))
          (c.ends_at_i (τ m) (partner_below o) ((ends o p).1 e));
      ends_at_j = λ m h e.
          let o = own m h in
          al.keeps.only (tie q) (tie p) (tie q) (tie o) (tie (partner_next o))
          (c.ends_at_j (τ m) (partner_below o) ((ends o q).1 e));
      angle_at_i = al.keeps.inside (tie (partner_prev p)) (tie p) (tie (partner_next p)) (tie q) c.angle_at_i;
      angle_at_j = al.keeps.inside (tie (partner_prev q)) (tie q) (tie (partner_next q)) (tie p) c.angle_at_j;
    }

    seen : Sees d k l → Sees d' i j
    seen s = record { sees = go s.sees }
      where
        go : Beside d k l ⊎ Clear d k l → Beside d' i j ⊎ Clear d' i j
        go (inl (inl e)) = inl (inl ((same p q).0 e))
        go (inl (inr (inl e))) = inl (inr (inl ((same (partner_next p) q).0 e)))
        go (inl (inr (inr e))) = inl (inr (inr ((same (partner_next q) p).0 e)))
        go (inr c) = inr (clear c)

  pub partners_sees : (i j : ℕ) → i < corners d → j < corners d → Sees d (τ i) (τ j) → Sees d' i j
  partners_sees i j h g = seen (h, refl) (g, refl)
