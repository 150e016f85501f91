-- Machine numbers within bounds. `Val z x B`: the value z that the machine holds is the whole number x, and |x| ≤ B.
-- A need `SFits w z` is `fit tt` of z's tree of `par`, `loc`, `lit`, `plus`, `less`, `times`, where the bound that the
-- tree computes is below half of w's range.
use Rattle.std.specs.Prelude.{◌≡◌, refl, Bool, true, false, cond, ◌⊎◌, ℕ, zero, suc, ◌+◌, ◌*◌, ◌-◌, ◌^◌, ◌≤◌, T, ltb, eqb, ℤ, pos, negsuc, neg_ℤ, nat_abs, ◌+ℤ◌, ◌-ℤ◌, ◌*ℤ◌, ◌≤ℤ◌, ◌<ℤ◌}
use Rattle.std.proofs.Common.{sym, ◌∙◌, ap, inl, inr, suc-le-suc, arith, le_refl, le_trans, le_of_eq, mul-le-mul, lt_of_le_of_lt, ltb→lt, leb→le, eqb-true, eq-eqb, to_z-of_z}
use Rattle.std.proofs.Math.IntN.{sub_ℕ}
use Rattle.std.specs.Int.Signed.{mag, nat_abs-le, lt_z, le_z, lt_z_yes, lt_z_no, le_z_yes}
use Rattle.std.proofs.lemmas.Bool.{eqb-false}
use Rattle.std.specs.Int.{Width, w32, w64}
use mir.Val.{SFits, to_z, of_z, hbits}
use Rattle.whole.specs.Order.{≤ℤ_total}

-- ---- the size of a sum and of a product
abs_neg : (z : ℤ) → nat_abs (neg_ℤ z) ≡ nat_abs z
abs_neg (pos zero) = refl
abs_neg (pos (suc n)) = refl
abs_neg (negsuc n) = refl

abs_sub : (a b : ℕ) → nat_abs (sub_ℕ a (suc b)) ≤ a + suc b
abs_sub a b = go (ltb a (suc b))
  where
    go : (t : Bool) → nat_abs (cond t (negsuc (suc b - suc a)) (pos (a - suc b))) ≤ a + suc b
    go true = omega arith
    go false = omega arith

abs_add : (x y : ℤ) → nat_abs (x +ℤ y) ≤ nat_abs x + nat_abs y
abs_add (pos a) (pos b) = le_refl (a + b)
abs_add (pos a) (negsuc b) = abs_sub a b
abs_add (negsuc a) (pos b) = omega (arith, abs_sub b a)
abs_add (negsuc a) (negsuc b) = omega arith

abs_mul : (x y : ℤ) → nat_abs (x *ℤ y) ≡ nat_abs x * nat_abs y
abs_mul (pos a) (pos b) = refl
abs_mul (pos a) (negsuc b) = abs_neg (pos (a * suc b))
abs_mul (negsuc a) (pos b) = abs_neg (pos (suc a * b))
abs_mul (negsuc a) (negsuc b) = refl

mag≤abs : (z : ℤ) → mag z ≤ nat_abs z
mag≤abs (pos n) = le_refl n
mag≤abs (negsuc n) = omega arith

-- ---- values
pub record Val (z x : ℤ) (B : ℕ) : Type 0 where
  pub is : z ≡ x
  pub below : nat_abs x ≤ B

pub fit : {w : Width} {z x : ℤ} {B : ℕ} → T (ltb B (2 ^ hbits w)) → Val z x B → SFits w z
fit {w} {z} {x} {B} t h =
    rw h.is (record { sfits = lt_of_le_of_lt (le_trans (mag≤abs x) h.below) (ltb→lt B (2 ^ hbits w) t) })

-- a parameter, read back
pub par : {w : Width} {x : ℤ} {B : ℕ} → SFits w x → nat_abs x ≤ B → Val (to_z w (of_z w x)) x B
par f h = record { is = to_z-of_z f; below = h }

-- a local that holds z, read back
pub loc : (w : Width) {z x : ℤ} {B : ℕ} → T (ltb B (2 ^ hbits w)) → Val z x B → Val (to_z w (of_z w z)) x B
loc w t h = record { is = to_z-of_z (fit t h) ∙ h.is; below = h.below }

pub lit : (x : ℤ) → Val x x (nat_abs x)
lit x = record { is = refl; below = le_refl (nat_abs x) }

module _ {z x u y : ℤ} {A B : ℕ} (h : Val z x A) (k : Val u y B) where
  pub plus : Val (z +ℤ u) (x +ℤ y) (A + B)
  plus = record { is = rw (h.is, k.is); below = omega (arith, abs_add x y, h.below, k.below) }

  pub less : Val (z -ℤ u) (x -ℤ y) (A + B)
  less = record { is = rw (h.is, k.is); below = omega (arith, abs_add x (neg_ℤ y), abs_neg y, h.below, k.below) }

  pub times : Val (z *ℤ u) (x *ℤ y) (A * B)
  times = record {
    is = rw (h.is, k.is);
    below = le_trans (le_of_eq (abs_mul x y)) (mul-le-mul h.below k.below);
  }

-- z's own bound, as a callee asks it
pub bound : {z x : ℤ} {B : ℕ} → Val z x B → nat_abs z ≤ B
bound h = rw h.is h.below

-- the bound from a range that is stated by the order
pub near_of : (B : ℕ) (x : ℤ) → neg_ℤ (pos B) ≤ℤ x → x ≤ℤ pos B → nat_abs x ≤ B
near_of B (pos n) h k = leb→le n B k.le
near_of zero (negsuc n) h k = absurd h.le
near_of (suc B) (negsuc n) h k = suc-le-suc (leb→le n B h.le)

-- ---- what a comparison of two values tells. `a > b` is `b < a` and `a >= b` is `b <= a`
module _ {z x u y : ℤ} (hz : z ≡ x) (hu : u ≡ y) where
  pub lt_yes : lt_z z u ≡ true → x <ℤ y
  lt_yes e = lt_z_yes (rw (← hz, ← hu, e) tt)

  pub lt_no : lt_z z u ≡ false → y ≤ℤ x
  lt_no e = lt_z_no (rw (← hz, ← hu, e) tt)

  pub le_yes : le_z z u ≡ true → x ≤ℤ y
  le_yes e = le_z_yes (rw (← hz, ← hu, e) tt)

  pub le_no : le_z z u ≡ false → y <ℤ x
  le_no e = go (≤ℤ_total x y)
    where
      go : (x ≤ℤ y) ⊎ (y <ℤ x) → y <ℤ x
      go (inl h) = absurd (rw (← hz, ← hu, e) at h.le)
      go (inr h) = h

-- `==` and `!=` compare the bits
module _ (w : Width) {x y : ℤ} where
  pub eq_yes : SFits w x → SFits w y → eqb (of_z w x) (of_z w y) ≡ true → x ≡ y
  eq_yes f g e = sym (to_z-of_z f) ∙ ap (to_z w) (eqb-true (of_z w x) (of_z w y) e) ∙ to_z-of_z g

  pub eq_no : eqb (of_z w x) (of_z w y) ≡ false → ¬ (x ≡ y)
  eq_no e q = eqb-false (of_z w x) (of_z w y) e (ap (of_z w) q)

  pub eq_is : x ≡ y → eqb (of_z w x) (of_z w y) ≡ true
  eq_is q = eq-eqb (of_z w x) (of_z w y) (ap (of_z w) q)

-- ---- uses: an i32 fits an i64, and so does the product of two differences of numbers up to a million; `x < y` of two
-- i64
widened : (x : ℤ) → SFits w32 x → SFits w64 (to_z w32 (of_z w32 x))
widened x f = fit tt (par f (nat_abs-le x f.sfits))

product_fits : (a b c d : ℤ) → nat_abs a ≤ 1000000 → nat_abs b ≤ 1000000 → nat_abs c ≤ 1000000 → nat_abs d ≤ 1000000 →
    SFits w64 ((b -ℤ a) *ℤ (d -ℤ c))
product_fits a b c d ha hb hc hd =
    fit tt (times (less (own b hb) (own a ha)) (less (own d hd) (own c hc)))
  where
    own : (x : ℤ) → nat_abs x ≤ 1000000 → Val x x 1000000
    own x h = record { is = refl; below = h }

compared : {x y : ℤ} → SFits w64 x → SFits w64 y → lt_z (to_z w64 (of_z w64 x)) (to_z w64 (of_z w64 y)) ≡ true → x <ℤ y
compared f g e = lt_yes (to_z-of_z f) (to_z-of_z g) e
