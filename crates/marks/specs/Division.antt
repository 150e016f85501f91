-- The quotient of two whole numbers, both cast to floats without loss: it is the rounded fraction, so it lies from 0
-- to below 1 and within 2^-53 of it, and equal fractions have one quotient.
use Rattle.std.specs.Prelude.{◌≡◌, refl, Bool, true, false, cond, pos, T, eqb, Float}
use Rattle.std.proofs.Common.{sym, ap, ◌∙◌, subst, true≢false, arith, le_trans, le_of_eq, le_of_lt, lt_of_lt_of_le, lt_irrefl, mul_comm, mul_assoc, mul_left_comm, mul-one, add-mul, suc-mul, zero-mul, mul-pos, mul-le-mul_right, mul-le-mul_left, mul-lt-mul_of_pos_right, le_of_mul-le-mul_right, lt_of_mul-lt-mul_right, div-mul-le_self, div-add-mod', mod-lt, div-lt_iff_lt-mul, eqb→eq, lit<, lit≤, pow-add, pow_pos, pow_mono}
use Prim.Native.Nat.{ℕ, suc, ◌+◌, ◌-◌, ◌*◌, ◌/◌, ◌%◌, ◌^◌, ◌≤◌, ◌<◌, compare}
use Rattle.std.specs.Float.{nan, inf, fin, binary64}
use Rattle.std.specs.Float.Ieee.{prec, emax, low, up, down, size, round, of_int, div}
use Rattle.std.specs.Float.Ieee.Digits.{size-le}
use Rattle.std.specs.Float.Ieee.Fits.{nearest-le, down_pos}
use Rattle.std.specs.Float.Ieee.Exact.{HasValue}
use Rattle.std.specs.Float.Ieee.Nearest.{nearest-ge}
use Rattle.std.specs.Float.Ieee.Order.{drop, kept}
use Rattle.std.specs.Float.Ieee.Scale.{round_same, grid, round_val}
use Rattle.std.specs.Float.Ieee.Back.{round_whole}
use Rattle.marks.specs.Steps.{Within, Rest}

-- ---- whole numbers only
-- n / u, cut off to q or moved up by one
cut_near : (n u q : ℕ) → 0 < u → n / u ≤ q → q ≤ suc (n / u) → (q * u ≤ n + u) × (n ≤ q * u + u)
cut_near n u q u+ lo hi =
    let a : n / u * u ≤ n = div-mul-le_self n u in
    let b : n / u * u + n % u ≡ n = div-add-mod' n u in
    let c : n % u < u = mod-lt n u+ in
    let d : n / u * u ≤ q * u = mul-le-mul_right u lo in
    let e : q * u ≤ suc (n / u) * u = mul-le-mul_right u hi in
    let f : suc (n / u) * u ≡ n / u * u + u = suc-mul (n / u) u in
    (omega arith, omega arith)

stays_below : (a b g L K P : ℕ) → K * P ≤ L → a < b → b < P → 0 < K → g * b ≤ a * L + b * K → g < L
stays_below a b g L K P fine ab b_p K+ h =
    let x : b * K < P * K = mul-lt-mul_of_pos_right b_p K+ in
    let y : P * K ≡ K * P = mul_comm P K in
    let z : suc a * L ≤ b * L = mul-le-mul_right L ab in
    let w : suc a * L ≡ a * L + L = suc-mul a L in
    let c : b * L ≡ L * b = mul_comm b L in
    lt_of_mul-lt-mul_right b (omega arith)

-- from g / L to n / d, of the same value: K is a unit of the last place, P is 2^53
module _ (a b g n d L K P : ℕ) (L+ : 0 < L) (same : n * L ≡ g * d) (fine : K * P ≤ L) where
  unit : b * K * (d * P) ≤ b * d * L
  unit = le_trans (le_of_eq (simp (mul_assoc, mul_comm, mul_left_comm))) (mul-le-mul_left (b * d) fine)

  scaled : n * b * P * L ≡ g * b * (d * P)
  scaled =
      simp (mul_assoc, mul_comm, mul_left_comm)
      (simp (mul_assoc, mul_comm, mul_left_comm) at (ap (λ (z : ℕ). z * (b * P)) same))

  moved : a * d * P * L ≡ a * L * (d * P)
  moved = simp (mul_assoc, mul_comm, mul_left_comm)

  move_over : g * b ≤ a * L + b * K → n * b * P ≤ a * d * P + b * d
  move_over h =
      let m : g * b * (d * P) ≤ (a * L + b * K) * (d * P) = mul-le-mul_right (d * P) h in
      let o : (a * L + b * K) * (d * P) ≡ a * L * (d * P) + b * K * (d * P) = add-mul (a * L) (b * K) (d * P) in
      let r : (a * d * P + b * d) * L ≡ a * d * P * L + b * d * L = add-mul (a * d * P) (b * d) L in
      le_of_mul-le-mul_right (omega (arith, unit, scaled, moved)) L+

  move_under : a * L ≤ g * b + b * K → a * d * P ≤ n * b * P + b * d
  move_under h =
      let m : a * L * (d * P) ≤ (g * b + b * K) * (d * P) = mul-le-mul_right (d * P) h in
      let o : (g * b + b * K) * (d * P) ≡ g * b * (d * P) + b * K * (d * P) = add-mul (g * b) (b * K) (d * P) in
      let r : (n * b * P + b * d) * L ≡ n * b * P * L + b * d * L = add-mul (n * b * P) (b * d) L in
      le_of_mul-le-mul_right (omega (arith, unit, scaled, moved)) L+

  move_below : 0 < d → g < L → n < d
  move_below d+ h =
      let x : g * d < L * d = mul-lt-mul_of_pos_right h d+ in
      let c : L * d ≡ d * L = mul_comm L d in
      lt_of_mul-lt-mul_right L (omega (arith, same))

-- ---- a fraction below 1, rounded
abbrev L : ℕ
L = 2 ^ low binary64

-- the place of its last digit
abbrev place : ℕ → ℕ → ℕ
place a b = drop (prec binary64) (a * L) b

few : (z p l : ℕ) → z ≤ l → p ≤ l → z - p + p ≤ l
few z p l h k = omega arith

fine : (a b : ℕ) → a < b → 2 ^ place a b * 2 ^ 53 ≤ L
fine a b ab =
    let b+ : 0 < b = omega arith in
    let less : a * L < L * b =
    lt_of_lt_of_le (mul-lt-mul_of_pos_right ab (pow_pos (low binary64))) (le_of_eq (mul_comm b L)) in
    let s : size (a * L / b) ≤ low binary64 = size-le (a * L / b) (low binary64) ((div-lt_iff_lt-mul b+).1 less) in
    le_trans (le_of_eq (sym (pow-add 2 (place a b) 53)))
    (pow_mono (few (size (a * L / b)) 53 (low binary64) s (lit≤ tt)))

abbrev over : ℕ → ℕ → ℕ → Type 0
over a b g = g * b ≤ a * L + b * 2 ^ place a b

abbrev under : ℕ → ℕ → ℕ → Type 0
under a b g = a * L ≤ g * b + b * 2 ^ place a b

grid_near : (a b : ℕ) → a < b → over a b (grid binary64 a b) × under a b (grid binary64 a b)
grid_near a b ab =
    let k = place a b in
    let u = b * 2 ^ k in
    let n = a * L in
    let b+ : 0 < b = omega arith in
    let q = kept (prec binary64) n b in
    let o = compare (n % u * 2) u in
    let h = cut_near n u q (mul-pos b+ (pow_pos k)) (nearest-ge (n / u) o) (nearest-le (n / u) o) in
    let e : q * u ≡ q * 2 ^ k * b = simp (mul_assoc, mul_comm, mul_left_comm) in
    (subst (λ (z : ℕ). z ≤ n + u) e h.0, subst (λ (z : ℕ). n ≤ z + u) e h.1)

from_value : (x : Float) (a b g : ℕ) → a < b → b < 2 ^ 53 → g < L → over a b g → under a b g → HasValue x false g L →
    Within x a b
from_value nan a b g ab b_p g_l h k v = absurd v
from_value (inf s) a b g ab b_p g_l h k v = absurd v
from_value (fin s m e) a b g ab b_p g_l h k v =
    let f = fine a b ab in
    let L+ = pow_pos (low binary64) in
    record {
      m = m;
      e = e;
      is = ap (λ (t : Bool). fin t m e) v.0;
      below_one = move_below a b g (m * up e) (down e) L (2 ^ place a b) (2 ^ 53) L+ v.1 f (down_pos e) g_l;
      not_above = move_over a b g (m * up e) (down e) L (2 ^ place a b) (2 ^ 53) L+ v.1 f h;
      not_below = move_under a b g (m * up e) (down e) L (2 ^ place a b) (2 ^ 53) L+ v.1 f k;
    }

round_near : (a b : ℕ) → a < b → b < 2 ^ 53 → Within (round binary64 false a b) a b
round_near a b ab b_p =
    let h = grid_near a b ab in
    let g = grid binary64 a b in
    let k = place a b in
    let g_l : g < L = stays_below a b g L (2 ^ k) (2 ^ 53) (fine a b ab) ab b_p (pow_pos k) h.0 in
    let high = pow_mono {i = low binary64} {j = low binary64 + suc (emax binary64)} (lit≤ tt) in
    from_value (round binary64 false a b) a b g ab b_p g_l h.0 h.1
    (round_val binary64 a b (lt_of_lt_of_le g_l high))

-- ---- the division of two floats that have the values a and b is the fraction, rounded
crossed : (x y p q a b : ℕ) → x * 1 ≡ a * p → y * 1 ≡ b * q → x * q * b ≡ a * (y * p)
crossed x y p q a b h k =
    let mid : a * p * q * b ≡ a * (b * q * p) = simp (mul_assoc, mul_comm, mul_left_comm) in
    ap (λ (z : ℕ). z * q * b) (sym (mul-one x) ∙ h) ∙ mid ∙ sym (ap (λ (z : ℕ). a * (z * p)) (sym (mul-one y) ∙ k))

div_is : (x y : Float) (a b : ℕ) → 0 < b → HasValue x false a 1 → HasValue y false b 1 →
    div binary64 x y ≡ round binary64 false a b
unfolding div
div_is nan y a b b+ v w = absurd v
div_is (inf s) y a b b+ v w = absurd v
div_is (fin s m e) nan a b b+ v w = absurd w
div_is (fin s m e) (inf t) a b b+ v w = absurd w
div_is (fin true m e) (fin t n d) a b b+ v w = absurd (true≢false v.0)
div_is (fin false m e) (fin true n d) a b b+ v w = absurd (true≢false w.0)
div_is (fin false m e) (fin false n d) a b b+ v w = go (eqb n 0) (eqb→eq n 0)
  where
    value : n * up d ≡ b * down d
    value = sym (mul-one (n * up d)) ∙ w.1

    some : 0 < n * up d
    some = subst (λ (z : ℕ). 0 < z) (sym value) (mul-pos b+ (down_pos d))

    go : (t : Bool) → (T t → n ≡ 0) →
        cond t (cond (eqb m 0) nan (inf false)) (round binary64 false (m * up e * down d) (n * up d * down e)) ≡ round
        binary64 false a b
    go true h =
        absurd (lt_irrefl 0 (subst (λ (z : ℕ). 0 < z) (ap (λ (z : ℕ). z * up d) (h tt) ∙ zero-mul (up d)) some))
    go false h =
        round_same binary64 false (m * up e * down d) (n * up d * down e) a b (mul-pos some (down_pos e)) b+
        (crossed (m * up e) (n * up d) (down e) (down d) a b v.1 w.1)

-- ---- rests
kept_whole : (n : ℕ) → n < 2 ^ 53 → HasValue (of_int binary64 (pos n)) false n 1
unfolding of_int
kept_whole n h = round_whole binary64 false n (le_of_lt h)

above : {k d : ℕ} → k < d → 0 < d
above h = omega arith

lower : {k d P : ℕ} → k < d → d < P → k < P
lower h l = omega arith

pub rest_of : (k d : ℕ) → k < d → d < 2 ^ 53 →
    Rest k d (div binary64 (of_int binary64 (pos k)) (of_int binary64 (pos d)))
rest_of k d kd small =
    let a = kept_whole k (lower kd small) in
    let b = kept_whole d small in
    let e = div_is (of_int binary64 (pos k)) (of_int binary64 (pos d)) k d (above kd) a b in
    record {
      k_kept = a;
      d_kept = b;
      quotient = refl;
      near = subst (λ x. Within x k d) (sym e)
          (round_near k d kd small);
    }

pub rest_same : (k d k' d' : ℕ) (x x' : Float) → k < d → k' < d' → k * d' ≡ k' * d → Rest k d x → Rest k' d' x' →
    x ≡ x'
rest_same k d k' d' x x' kd kd' e h h' =
    h.quotient
    ∙ div_is (of_int binary64 (pos k)) (of_int binary64 (pos d)) k d (above kd) h.k_kept h.d_kept
    ∙ round_same binary64 false k d k' d' (above kd) (above kd') e
    ∙ sym (div_is (of_int binary64 (pos k')) (of_int binary64 (pos d')) k' d' (above kd') h'.k_kept h'.d_kept)
    ∙ sym h'.quotient

-- a use: one third
third : Rest 1 3 (div binary64 (of_int binary64 (pos 1)) (of_int binary64 (pos 3)))
third = rest_of 1 3 (lit< tt) (lit< tt)
