-- An expression has the value of its normal form: one lemma for each function of `Expr`.
use Rattle.std.specs.Prelude.{◌≡◌, T, ℤ, negsuc, ◌+ℤ◌, ◌-ℤ◌, ◌*ℤ◌}
use Rattle.std.proofs.Math.Path.{refl, sym, ap}
use Rattle.std.proofs.Common.{◌∙◌, eqb→eq}
use mathlib.Core.List.{List, [], ◌∷◌}
use Prim.Native.Nat.{ℕ, zero, suc, compare, Ordering}
use Rattle.std.proofs.Math.Dec.{compare_is_eq}
use Rattle.std.proofs.Math.IntN.{pos, neg_ℤ, one, +ℤ_assoc, +ℤ_comm, +ℤ_idl, +ℤ_idr, neg_ℤ-+ℤ, *ℤ_comm, *ℤ-one, *ℤ-zero, zero-*ℤ}
use Rattle.whole.specs.Laws.{+ℤ_middle, *ℤ_distl, *ℤ_distr, *ℤ_negl, *ℤ_assoc}
use Rattle.whole.specs.Expr.{E, v, con, ◌:+◌, ◌:-◌, ◌:*◌, neg, at, eval}
use Rattle.whole.specs.Expr.{then_by, by_degree, by_variables, order, place, insert, mono_mul}
use Rattle.whole.specs.Expr.{Poly, nil, term, tidy, pick, merge, poly_add, poly_neg, scale, poly_mul, norm}

one_* : (k : ℤ) → pos 1 *ℤ k ≡ k
unfolding one
one_* k = *ℤ_comm (pos 1) k ∙ *ℤ-one k

*-one : (k : ℤ) → k *ℤ pos 1 ≡ k
unfolding one
*-one k = *ℤ-one k

-- a(bc) = b(ac), a + (b + c) = b + (a + c), (ab)(cd) = (ac)(bd)
swap* : (a b c : ℤ) → a *ℤ (b *ℤ c) ≡ b *ℤ (a *ℤ c)
swap* a b c = sym (*ℤ_assoc a b c) ∙ ap (λ x. x *ℤ c) (*ℤ_comm a b) ∙ *ℤ_assoc b a c

swap+ : (a b c : ℤ) → a +ℤ (b +ℤ c) ≡ b +ℤ (a +ℤ c)
swap+ a b c = sym (+ℤ_assoc a b c) ∙ ap (λ x. x +ℤ c) (+ℤ_comm a b) ∙ +ℤ_assoc b a c

middle* : (a b c d : ℤ) → (a *ℤ b) *ℤ (c *ℤ d) ≡ (a *ℤ c) *ℤ (b *ℤ d)
middle* a b c d = *ℤ_assoc a b (c *ℤ d) ∙ ap (λ x. a *ℤ x) (swap* b c d) ∙ sym (*ℤ_assoc a c (b *ℤ d))

-- ---- where the order says "equal", the monomials are
then_l : (o k : Ordering) → T (compare_is_eq (then_by o k)) → T (compare_is_eq o)
then_l Ordering.lt k t = t
then_l Ordering.eq k t = tt
then_l Ordering.gt k t = t

then_r : (o k : Ordering) → T (compare_is_eq (then_by o k)) → T (compare_is_eq k)
then_r Ordering.lt k t = absurd t
then_r Ordering.eq k t = t
then_r Ordering.gt k t = absurd t

variables_eq : (m n : List ℕ) → T (compare_is_eq (by_variables m n)) → m ≡ n
variables_eq [] [] t = refl
variables_eq [] (y ∷ n) t = absurd t
variables_eq (x ∷ m) [] t = absurd t
variables_eq (x ∷ m) (y ∷ n) t =
    ap (λ z. z ∷ m) (eqb→eq x y (then_l (compare x y) (by_variables m n) t))
    ∙ ap (λ z. y ∷ z) (variables_eq m n (then_r (compare x y) (by_variables m n) t))

order_eq : (m n : List ℕ) → T (compare_is_eq (order m n)) → m ≡ n
order_eq m n t = variables_eq m n (then_r (by_degree m n) (by_variables m n) t)

module _ (ρ : List ℤ) where
  -- the value of a monomial
  mono : List ℕ → ℤ
  mono [] = pos 1
  mono (k ∷ m) = at ρ k *ℤ mono m

  place_ok : (o : Ordering) (x y : ℕ) (m r : List ℕ) → mono r ≡ at ρ x *ℤ mono m →
      mono (place o x y m r) ≡ at ρ x *ℤ (at ρ y *ℤ mono m)
  unfolding mono
  place_ok Ordering.lt x y m r h = refl
  place_ok Ordering.eq x y m r h = refl
  place_ok Ordering.gt x y m r h = ap (λ z. at ρ y *ℤ z) h ∙ swap* (at ρ y) (at ρ x) (mono m)

  insert_ok : (x : ℕ) (m : List ℕ) → mono (insert x m) ≡ at ρ x *ℤ mono m
  unfolding mono
  insert_ok x [] = refl
  insert_ok x (y ∷ m) = place_ok (compare x y) x y m (insert x m) (insert_ok x m)

  mono_mul_ok : (m n : List ℕ) → mono (mono_mul m n) ≡ mono m *ℤ mono n
  unfolding mono
  mono_mul_ok [] n = sym (one_* (mono n))
  mono_mul_ok (x ∷ m) n =
      insert_ok x (mono_mul m n) ∙ ap (λ z. at ρ x *ℤ z) (mono_mul_ok m n) ∙ sym (*ℤ_assoc (at ρ x) (mono m) (mono n))

  -- the value of a sum of terms
  unfoldable pub value : Poly → ℤ
  unfolding mono
  value nil = pos zero
  value (term c m p) = c *ℤ mono m +ℤ value p

  tidy_ok : (c : ℤ) (m : List ℕ) (p : Poly) → value (tidy c m p) ≡ c *ℤ mono m +ℤ value p
  unfolding value
  tidy_ok (pos zero) m p = sym (ap (λ z. z +ℤ value p) (zero-*ℤ (mono m)) ∙ +ℤ_idl (value p))
  tidy_ok (pos (suc k)) m p = refl
  tidy_ok (negsuc k) m p = refl

  -- two lists merged: `add` adds p, and g is the third branch
  abbrev Adds : Poly → (Poly → Poly) → Type 0
  Adds p add = (z : Poly) → value (add z) ≡ value p +ℤ value z

  module _ (c d : ℤ) (m n : List ℕ) (p q : Poly) (add : Poly → Poly) (add_ok : Adds p add) where
    pick_ok : (o : Ordering) (g : Poly) → (T (compare_is_eq o) → m ≡ n) →
        value g ≡ d *ℤ mono n +ℤ ((c *ℤ mono m +ℤ value p) +ℤ value q) →
        value (pick o (term c m (add (term d n q))) (tidy (c +ℤ d) n (add q)) g)
        ≡ (c *ℤ mono m +ℤ value p) +ℤ (d *ℤ mono n +ℤ value q)
    unfolding value
    pick_ok Ordering.lt g e h =
        ap (λ z. c *ℤ mono m +ℤ z) (add_ok (term d n q)) ∙
        sym (+ℤ_assoc (c *ℤ mono m) (value p) (d *ℤ mono n +ℤ value q))
    pick_ok Ordering.eq g e h =
        tidy_ok (c +ℤ d) n (add q)
        ∙ ap (λ z. (c +ℤ d) *ℤ mono n +ℤ z) (add_ok q)
        ∙ ap (λ z. z +ℤ (value p +ℤ value q)) (*ℤ_distr c d (mono n))
        ∙ +ℤ_middle (c *ℤ mono n) (d *ℤ mono n) (value p) (value q)
        ∙ ap (λ z. (c *ℤ mono z +ℤ value p) +ℤ (d *ℤ mono n +ℤ value q)) (sym (e tt))
    pick_ok Ordering.gt g e h = h ∙ swap+ (d *ℤ mono n) (c *ℤ mono m +ℤ value p) (value q)

  merge_ok : (c : ℤ) (m : List ℕ) (p : Poly) (add : Poly → Poly) → Adds p add → (q : Poly) →
      value (merge c m p add q) ≡ (c *ℤ mono m +ℤ value p) +ℤ value q
  unfolding value
  merge_ok c m p add add_ok nil = sym (+ℤ_idr (c *ℤ mono m +ℤ value p))
  merge_ok c m p add add_ok (term d n q) =
      pick_ok c d m n p q add add_ok (order m n) (term d n (merge c m p add q)) (order_eq m n)
      (ap (λ z. d *ℤ mono n +ℤ z) (merge_ok c m p add add_ok q))

  poly_add_ok : (p q : Poly) → value (poly_add p q) ≡ value p +ℤ value q
  unfolding value
  poly_add_ok nil q = sym (+ℤ_idl (value q))
  poly_add_ok (term c m p) q = merge_ok c m p (λ z. poly_add p z) (λ z. poly_add_ok p z) q

  poly_neg_ok : (p : Poly) → value (poly_neg p) ≡ neg_ℤ (value p)
  unfolding value
  poly_neg_ok nil = refl
  poly_neg_ok (term c m p) =
      ap (λ z. neg_ℤ c *ℤ mono m +ℤ z) (poly_neg_ok p)
      ∙ ap (λ z. z +ℤ neg_ℤ (value p)) (*ℤ_negl c (mono m))
      ∙ sym (neg_ℤ-+ℤ (c *ℤ mono m) (value p))

  scale_ok : (c : ℤ) (m : List ℕ) (q : Poly) → value (scale c m q) ≡ (c *ℤ mono m) *ℤ value q
  unfolding value
  scale_ok c m nil = sym (*ℤ-zero (c *ℤ mono m))
  scale_ok c m (term d n q) =
      ap (λ z. (c *ℤ d) *ℤ z +ℤ value (scale c m q)) (mono_mul_ok m n)
      ∙ ap (λ z. (c *ℤ d) *ℤ (mono m *ℤ mono n) +ℤ z) (scale_ok c m q)
      ∙ ap (λ z. z +ℤ (c *ℤ mono m) *ℤ value q) (middle* c d (mono m) (mono n))
      ∙ sym (*ℤ_distl (c *ℤ mono m) (d *ℤ mono n) (value q))

  poly_mul_ok : (p q : Poly) → value (poly_mul p q) ≡ value p *ℤ value q
  unfolding value
  poly_mul_ok nil q = sym (zero-*ℤ (value q))
  poly_mul_ok (term c m p) q =
      poly_add_ok (scale c m q) (poly_mul p q)
      ∙ ap (λ z. z +ℤ value (poly_mul p q)) (scale_ok c m q)
      ∙ ap (λ z. (c *ℤ mono m) *ℤ value q +ℤ z) (poly_mul_ok p q)
      ∙ sym (*ℤ_distr (c *ℤ mono m) (value p) (value q))

  pub norm_ok : (e : E) → eval ρ e ≡ value (norm e)
  unfolding value mono
  norm_ok (v k) = sym (+ℤ_idr (pos 1 *ℤ (at ρ k *ℤ pos 1)) ∙ one_* (at ρ k *ℤ pos 1) ∙ *-one (at ρ k))
  norm_ok (con c) = sym (tidy_ok c [] nil ∙ +ℤ_idr (c *ℤ pos 1) ∙ *-one c)
  norm_ok (a :+ b) =
      ap (λ z. z +ℤ eval ρ b) (norm_ok a) ∙ ap (λ z. value (norm a) +ℤ z) (norm_ok b) ∙
      sym (poly_add_ok (norm a) (norm b))
  norm_ok (a :- b) =
      ap (λ z. z -ℤ eval ρ b) (norm_ok a)
      ∙ ap (λ z. value (norm a) -ℤ z) (norm_ok b)
      ∙ ap (λ z. value (norm a) +ℤ z) (sym (poly_neg_ok (norm b)))
      ∙ sym (poly_add_ok (norm a) (poly_neg (norm b)))
  norm_ok (a :* b) =
      ap (λ z. z *ℤ eval ρ b) (norm_ok a) ∙ ap (λ z. value (norm a) *ℤ z) (norm_ok b) ∙
      sym (poly_mul_ok (norm a) (norm b))
  norm_ok (neg a) = ap neg_ℤ (norm_ok a) ∙ sym (poly_neg_ok (norm a))
