-- Expressions over whole numbers, and their normal form: a list of terms, each a coefficient and a monomial (the
-- numbers of its variables, rising), the terms rising by monomial and no coefficient zero. That an expression has the
-- value of its normal form (`Normal`) holds whatever the order of the terms: the order only makes equal expressions
-- meet in one form. All that computes is `abbrev`, so that a use of the solver needs no `unfolding` line.
use Rattle.std.specs.Prelude.{List, [], ◌∷◌, ℤ, pos, negsuc, neg_ℤ, ◌+ℤ◌, ◌-ℤ◌, ◌*ℤ◌}
use Prim.Native.Nat.{ℕ, zero, suc, compare, Ordering}

infixl 6 ◌:+◌ ◌:-◌
infixl 7 ◌:*◌
pub data E : Type 0 where
  v : ℕ → E
  con : ℤ → E
  ◌:+◌ ◌:-◌ ◌:*◌ : E → E → E
  neg : E → E

-- variable k's value is the k-th of the list
abbrev pub at : List ℤ → ℕ → ℤ
at [] k = pos zero
at (x ∷ xs) zero = x
at (x ∷ xs) (suc k) = at xs k

abbrev pub eval : List ℤ → E → ℤ
eval ρ (v k) = at ρ k
eval ρ (con c) = c
eval ρ (a :+ b) = eval ρ a +ℤ eval ρ b
eval ρ (a :- b) = eval ρ a -ℤ eval ρ b
eval ρ (a :* b) = eval ρ a *ℤ eval ρ b
eval ρ (neg a) = neg_ℤ (eval ρ a)

-- ---- monomials are compared by degree, then by their variables: multiplying by one monomial keeps that order.
-- A branch that may not be taken stands under a `let`, because a call's arguments are computed before the call.
abbrev pub then_by : Ordering → Ordering → Ordering
then_by Ordering.lt k = Ordering.lt
then_by Ordering.eq k = k
then_by Ordering.gt k = Ordering.gt

abbrev pub by_degree : List ℕ → List ℕ → Ordering
by_degree [] [] = Ordering.eq
by_degree [] (y ∷ n) = Ordering.lt
by_degree (x ∷ m) [] = Ordering.gt
by_degree (x ∷ m) (y ∷ n) = by_degree m n

abbrev pub by_variables : List ℕ → List ℕ → Ordering
by_variables [] [] = Ordering.eq
by_variables [] (y ∷ n) = Ordering.lt
by_variables (x ∷ m) [] = Ordering.gt
by_variables (x ∷ m) (y ∷ n) = let k = by_variables m n in then_by (compare x y) k

abbrev pub order : List ℕ → List ℕ → Ordering
order m n = let k = by_variables m n in then_by (by_degree m n) k

abbrev pub place : Ordering → ℕ → ℕ → List ℕ → List ℕ → List ℕ
place Ordering.lt x y m r = x ∷ y ∷ m
place Ordering.eq x y m r = x ∷ y ∷ m
place Ordering.gt x y m r = y ∷ r

abbrev pub insert : ℕ → List ℕ → List ℕ
insert x [] = x ∷ []
insert x (y ∷ m) = let r = insert x m in place (compare x y) x y m r

abbrev pub mono_mul : List ℕ → List ℕ → List ℕ
mono_mul [] n = n
mono_mul (x ∷ m) n = insert x (mono_mul m n)

-- ---- sums of terms
pub data Poly : Type 0 where
  nil : Poly
  term : ℤ → List ℕ → Poly → Poly

-- a term that is not there if its coefficient is zero
abbrev pub tidy : ℤ → List ℕ → Poly → Poly
tidy (pos zero) m p = p
tidy (pos (suc k)) m p = term (pos (suc k)) m p
tidy (negsuc k) m p = term (negsuc k) m p

abbrev pub pick : Ordering → Poly → Poly → Poly → Poly
pick Ordering.lt l e g = l
pick Ordering.eq l e g = e
pick Ordering.gt l e g = g

-- the term c m, then p, merged into a list; `add` adds p
abbrev pub merge : ℤ → List ℕ → Poly → (Poly → Poly) → Poly → Poly
merge c m p add nil = term c m p
merge c m p add (term d n q) =
    let l = term c m (add (term d n q)) in
    let e = tidy (c +ℤ d) n (add q) in
    let g = term d n (merge c m p add q) in
    pick (order m n) l e g

abbrev pub poly_add : Poly → Poly → Poly
poly_add nil q = q
poly_add (term c m p) q = merge c m p (λ z. poly_add p z) q

abbrev pub poly_neg : Poly → Poly
poly_neg nil = nil
poly_neg (term c m p) = term (neg_ℤ c) m (poly_neg p)

-- every term times the term c m
abbrev pub scale : ℤ → List ℕ → Poly → Poly
scale c m nil = nil
scale c m (term d n q) = term (c *ℤ d) (mono_mul m n) (scale c m q)

abbrev pub poly_mul : Poly → Poly → Poly
poly_mul nil q = nil
poly_mul (term c m p) q = poly_add (scale c m q) (poly_mul p q)

abbrev pub norm : E → Poly
norm (v k) = term (pos 1) (k ∷ []) nil
norm (con c) = tidy c [] nil
norm (a :+ b) = poly_add (norm a) (norm b)
norm (a :- b) = poly_add (norm a) (poly_neg (norm b))
norm (a :* b) = poly_mul (norm a) (norm b)
norm (neg a) = poly_neg (norm a)
