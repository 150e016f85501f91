-- Signed numbers of the machine: what a comparison of two of them tells, coordinates as they are read and held, and
-- that the products of their differences fit.
use mathlib.Core.Path.{◌≡◌, refl, sym, ap, ◌∙◌, subst}
use mathlib.Core.Bool.{Bool, true, false, not, ◌&&◌, ◌||◌}
use Rattle.std.specs.Bool.{MatchBool, Decides}
use Rattle.std.specs.List.{range_with_len, AllWithin, HoldsAt}
use Rattle.std.proofs.lemmas.List.FromFn.{length-range_with_len, get_or-range_with_len}
use mathlib.Core.Logic.{◌⊎◌, inl}
use mathlib.Core.List.{List}
use Prim.Native.Nat.{ℕ, ◌+◌, ◌-◌, ◌*◌, ◌^◌, ◌≤◌, ◌<◌}
use native.Mathlib.Omega.{arith}
use lib.Dec.{eqb}
use lib.IntN.{ℤ, pos, nat_abs, ◌-ℤ◌, ◌*ℤ◌}
use lib.ListN.{get_or, length}
use lib.Signed.{mag, le_z, lt_z, ◌≤ℤ◌, ◌<ℤ◌}
use mir.Syntax.{w32, w64}
use mir.Val.{to_z, of_z, bool_byte}
use mir.Facts.{to_z-of_z}
use borrow.Author.Rules.{sfits_of}
use Rattle.whole.specs.Masks.{Digit, Made, Marks, made_none, made_more, made_all, made_room}
use Rattle.whole.specs.Bounds.{Val, fit, par, loc, less, times, near_of}
use Rattle.limits.specs.Limits.{furthest}
use Rattle.outline.specs.Drawing.{Point, InRange, turn_of}
use Rattle.outline.specs.Segments.{Dot, point_eq}
use Rattle.std.specs.Ordering.{int_eq}
use Rattle.std.proofs.lemmas.Bool.{false≢true}
use Rattle.std.proofs.lemmas.Bool.Decides.{Decides-int_eq}
use Rattle.drawing.specs.Meeting.{Reached, Meets}
use Rattle.drawing.specs.declared.segment.Met.{Met}
use Rattle.outline.specs.Tells.{Tells, as_well, eq_tells, surely, never, if_yes, if_no, and_tells, or_tells, not_tells}
use Rattle.drawing.specs.Parts.{point, Close}
use Rattle.drawing.specs.Away.{Far}
use Rattle.drawing.specs.declared.segment.Place.{Place}

-- ---- a comparison as an answer
module _ {z x u y : ℤ} {P : Type 0} (hz : z ≡ x) (hu : u ≡ y) where
  pub by_lt : (x <ℤ y → P) → (P → x <ℤ y) → Tells (lt_z z u) P
  by_lt f g = record { sure = λ t. f (record { lt = rw (hz, hu) at t }); told = λ p. rw (hz, hu) (g p).lt }

  pub by_le : (x ≤ℤ y → P) → (P → x ≤ℤ y) → Tells (le_z z u) P
  by_le f g = record { sure = λ t. f (record { le = rw (hz, hu) at t }); told = λ p. rw (hz, hu) (g p).le }

-- ---- coordinates within the limits, as the machine computes with them
abbrev pub back : ℤ → ℤ
back z = to_z w64 (of_z w64 z)

-- a result that is known, held in a local
pub held : {r x : ℤ} → mag r < 2 ^ 63 → r ≡ x → back r ≡ x
held ok e = to_z-of_z {w = w64} (sfits_of ok) ∙ e

-- `==` compares the bits
pub same_bits : {m n : ℕ} {x y : ℤ} → to_z w64 m ≡ x → to_z w64 n ≡ y → m ≡ n → x ≡ y
same_bits p q e = sym p ∙ ap (to_z w64) e ∙ q

pub by_nought : {r x : ℤ} → mag r < 2 ^ 63 → r ≡ x → Tells (eqb (of_z w64 r) 0) (x ≡ pos 0)
by_nought {r} ok is =
    as_well (eq_tells (of_z w64 r) 0) (λ e. same_bits (held ok is) refl e) (λ e. ap (of_z w64) (is ∙ e))

-- a result that is known is not above zero
pub by_le_nought : {r x : ℤ} → mag r < 2 ^ 63 → r ≡ x → Tells (le_z (back r) (pos 0)) (x ≤ℤ pos 0)
by_le_nought ok is = by_le (held ok is) refl (λ h. h) (λ h. h)

-- a coordinate of a list, read
abbrev pub Coordinate : List ℤ → ℕ → Type 0
Coordinate d k = Val (to_z w32 (of_z w32 (get_or d k (pos 0)))) (get_or d k (pos 0)) furthest

pub coordinate : (d : List ℤ) (k : ℕ) → InRange d → k < length d → mag (get_or d k (pos 0)) < 2 ^ 31 → Coordinate d k
coordinate d k l h f = par {w = w32} (sfits_of f) (near_of furthest (get_or d k (pos 0)) (l.low k h) (l.high k h))

-- and one that is held
own : {x : ℤ} → nat_abs x ≤ furthest → Val (back x) x furthest
own {x} h = par {w = w64} (fit {z = x} (tt {0}) (record { is = refl; below = h })) h

module _ {p : Point} (h : Close p) where
  pub the_x : Val (back p.x) p.x furthest
  the_x = own h.close_x

  pub the_y : Val (back p.y) p.y furthest
  the_y = own h.close_y

-- a coordinate from another corner
module _ {p : Place} (h : Far p) where
  pub x_away : Val (back p.x) p.x (2 * furthest)
  x_away = par {w = w64} (fit {z = p.x} (tt {0}) (record { is = refl; below = h.far_x })) h.far_x

  pub y_away : Val (back p.y) p.y (2 * furthest)
  y_away = par {w = w64} (fit {z = p.y} (tt {0}) (record { is = refl; below = h.far_y })) h.far_y

-- the product of two differences, each held in a local
pub product : {z x u y s a t b : ℤ} → Val z x furthest → Val u y furthest → Val s a furthest → Val t b furthest →
    Val (back (z -ℤ u) *ℤ back (s -ℤ t)) ((x -ℤ y) *ℤ (a -ℤ b)) 4000000000000
product h k m n = times (loc w64 tt (less h k)) (loc w64 tt (less m n))

-- 01's turn, of points within the limits
abbrev machine_turn : Point → Point → Point → ℤ
machine_turn a b c =
    back (back (back b.x -ℤ back a.x) *ℤ back (back c.y -ℤ back a.y))
    -ℤ back (back (back b.y -ℤ back a.y) *ℤ back (back c.x -ℤ back a.x))

pub turn_held : {a b c : Point} → Close a → Close b → Close c → Val (machine_turn a b c) (turn_of a b c) 8000000000000
turn_held h k l =
    less (loc w64 tt (product (the_x k) (the_x h) (the_y l) (the_y h)))
    (loc w64 tt (product (the_y k) (the_y h) (the_x l) (the_x h)))

-- ---- of points that are known
module _ {a b c p q r : Point} (e : a ≡ p) (f : b ≡ q) (g : c ≡ r) where
  pub turn_same : turn_of a b c ≡ turn_of p q r
  turn_same = λ i. turn_of (e i) (f i) (g i)

  pub dot_same : Dot a b c ≡ Dot p q r
  dot_same = λ i. Dot (e i) (f i) (g i)

module _ {a b c d p q r s : Point} (e : a ≡ p) (f : b ≡ q) (g : c ≡ r) (h : d ≡ s) where
  pub reached_as : Reached p q r s → Reached a b c d
  reached_as x = subst (λ z. z) (sym (λ i. Reached (e i) (f i) (g i) (h i))) x

  pub meets_as : (w : Met) → Meets a b c d w → Meets p q r s w
  meets_as w x = subst (λ z. z) (λ i. Meets (e i) (f i) (g i) (h i) w) x

-- ---- `||`, by the branch that ran: the value is the first test's, or the second's
module _ {v a : Bool} {P Q : Type 0} (first : Tells a P) where
  pub or_first : v ≡ a → a ≡ true → Tells v (P ⊎ Q)
  or_first is e = rw is (rw e (surely (inl (if_yes first e))))

  module _ {b : Bool} (second : Tells b Q) where
    pub or_second : v ≡ b → a ≡ false → Tells v (P ⊎ Q)
    or_second is e = rw is (or_tells (never (if_no first e)) second)

-- two places are compared coordinate by coordinate
by_decides : {b : Bool} {P : Type 0} → Decides b P → Tells b P
by_decides {b = true} d = surely (d.0 refl)
by_decides {b = false} d = never (λ p. absurd (false≢true (d.1 p)))

pub differ_tells : (p q : Place) → Tells (not (int_eq p.x q.x && int_eq p.y q.y)) (¬ (point p ≡ point q))
differ_tells p q =
    not_tells (as_well
    (and_tells (by_decides (Decides-int_eq p.x q.x)) (by_decides (Decides-int_eq p.y q.y)))
    (λ h. point_eq h.0 h.1) (λ e. (ap (λ (z : Point). z.x) e, ap (λ (z : Point). z.y) e)))

-- n numbers, a the first of them: every one passes, or one fails
pub range_tells : {r : Bool} {P : ℕ → Type 0} (a n : ℕ) →
    MatchBool r (AllWithin P (range_with_len a n) 0 (length (range_with_len a n)))
    ((k : ℕ) × (k < length (range_with_len a n)) × HoldsAt (λ i. ¬ P i) (range_with_len a n) k) →
    Tells r ((i : ℕ) → a ≤ i → i < a + n → P i)
range_tells {r = true} {P} a n all =
    surely (λ i m l. let e : get_or (range_with_len a n) (i - a) 0 ≡ i =
    omega (arith, get_or-range_with_len a n (i - a) 0 (omega (arith, m, l)), m) in
    subst P e (all (i - a) 0 (omega arith) (omega (arith, m, l, length-range_with_len a n))))
range_tells {r = false} {P} a n w =
    let l : w.0 < n = omega (arith, w.1, length-range_with_len a n) in
    let e : a + w.0 ≡ get_or (range_with_len a n) w.0 0 = omega (arith, get_or-range_with_len a n w.0 0 l) in
    never (λ f. w.2 0 (subst P e (f (a + w.0) (omega arith) (omega (arith, l)))))

-- every number below n
pub all_tell : {r : Bool} {P : ℕ → Type 0} (n : ℕ) →
    MatchBool r (AllWithin P (range_with_len 0 n) 0 (length (range_with_len 0 n)))
    ((k : ℕ) × (k < length (range_with_len 0 n)) × HoldsAt (λ i. ¬ P i) (range_with_len 0 n) k) →
    Tells r ((i : ℕ) → i < n → P i)
all_tell n w = as_well (range_tells 0 n w) (λ f i l. f i (omega arith) (omega arith)) (λ f i m l. f i (omega arith))

-- ---- a test as a digit of a mask
pub digit_small : (b : Bool) → bool_byte b < 2
digit_small true = omega arith
digit_small false = omega arith

pub digit : {b : Bool} {P : Type 0} → Tells b P → Digit (bool_byte b) P
digit {b = true} t = record { small = digit_small true; one = λ e. t.sure tt; nought = λ e. absurd (omega arith) }
digit {b = false} t = record { small = digit_small false; one = λ e. absurd (omega arith); nought = λ e p. t.told p }

-- of two tests, either
pub either : {b c : Bool} {P Q : Type 0} → Tells b P → Tells c Q → Digit (bool_byte (b || c)) (P ⊎ Q)
either f g = digit (or_tells f g)

-- ---- a mask as it is made, from the last number down, as j numbers are left
module _ {n : ℕ} {P : ℕ → Type 0} where
  pub made_first : {j : ℕ} → j ≡ n → Made n (n - j) 0 P
  made_first {j} h = let e : n - j ≡ 0 = omega (arith, h) in rw e made_none

  pub made_down : {j m b : ℕ} → 0 < j → j ≤ n → Made n (n - j) m P → Digit b (P (j - 1)) →
      Made n (n - (j - 1)) (m * 2 + b) P
  made_down {j} {m} {b} l h s d =
      let e : n - (j - 1) ≡ n - j + 1 = omega (arith, l, h) in
      let f : n - (n - j + 1) ≡ j - 1 = omega (arith, l, h) in
      rw e (made_more (omega (arith, l, h)) s (subst (λ k. Digit b (P k)) (sym f) d))

  pub down_room : {j m b : ℕ} → 0 < j → j ≤ n → n ≤ 64 → Made n (n - j) m P → b < 2 → m * 2 + b < 2 ^ 64
  down_room l h few s small = made_room (omega (arith, l, h)) s few small

  pub made_last : {j m : ℕ} → j ≤ 0 → Made n (n - j) m P → Marks n m P
  made_last {j} l s = let e : n - j ≡ n = omega (arith, l) in made_all (rw e at s)

  pub all_fits : {j m : ℕ} → j ≤ 0 → Made n (n - j) m P → m < 2 ^ n
  all_fits {j} l s = let e : n - j ≡ n = omega (arith, l) in let m = rw e at s in m.fits
