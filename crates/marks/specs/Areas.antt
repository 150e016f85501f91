-- A point is in or on three corners that make an area exactly when its areas with two of them each add up to theirs.
-- Areas have no sign, so the corners may turn either way.
use Rattle.std.specs.Prelude.{◌≡◌, refl, ◌↔◌, List, [], ◌∷◌, zero, suc, ◌+◌, ◌<◌, ℤ, pos, negsuc, neg_ℤ, nat_abs, ◌+ℤ◌, ◌-ℤ◌, ◌*ℤ◌}
use Rattle.std.proofs.Common.{sym, ◌∙◌, ap, ap₂, subst, arith}
use Rattle.whole.specs.Ring.{E, v, con, ◌:+◌, ◌:-◌, ◌:*◌, neg, ring, ring1, by_ring}
use Rattle.whole.specs.Order.{Nonneg, Positive, nonneg_add, nonneg_pos, nonneg_zero, positive_nonneg}
use Rattle.whole.specs.Order.{Sign, plus, nought, minus, sign}
use Rattle.outline.specs.Drawing.{Point, turn_of, doubled_area}
use Rattle.outline.specs.InOrOn.{spot, InOrOn}
use Rattle.outline.specs.Spell.{A, B, C, D, O, I, env4, TurnE}
use Rattle.marks.specs.Lands.{triangle, area}
use Rattle.marks.specs.Lies.{Lies, in_lies, lies_in, swap_lies}
use Rattle.marks.specs.Weighs.{lies_weighs}

-- ---- the size of a turn is 01's doubled area of the three corners, without its sign
pub turn_area : (a b c : Point) → doubled_area (triangle a b c) ≡ turn_of a b c
turn_area a b c =
    ring (env4 a b c c)
    (O :+ (A.x :* B.y :- B.x :* A.y) :+ (B.x :* C.y :- C.x :* B.y) :+ (C.x :* A.y :- A.x :* C.y))
    (TurnE A B C) refl

-- ---- sizes of numbers
neg_size : (z : ℤ) → nat_abs (neg_ℤ z) ≡ nat_abs z
neg_size (pos zero) = refl
neg_size (pos (suc n)) = refl
neg_size (negsuc n) = refl

nonneg_size : {z : ℤ} → Nonneg z → pos (nat_abs z) ≡ z
nonneg_size {z = pos n} p = refl
nonneg_size {z = negsuc n} p = absurd p.le

slack : (z : ℤ) → Nonneg (pos (nat_abs z) -ℤ z)
slack (pos n) = by_ring (pos n ∷ []) Nonneg O (v 0 :- v 0) refl (nonneg_pos 0)
slack (negsuc n) = nonneg_pos (suc n + suc n)

-- no slack: the number is its size
tight : (z : ℤ) → Nonneg (neg_ℤ (pos (nat_abs z) -ℤ z)) → Nonneg z
tight z h =
    subst Nonneg (ring1 (z ∷ pos (nat_abs z) ∷ []) (v 1) (v 0) I (v 1 :- v 0) O (nonneg_zero (slack z) h) refl)
    (nonneg_pos (nat_abs z))

-- three numbers add up to a positive one, and so do their sizes: none is below zero
sizes_nonneg : (x y z : ℤ) → Positive (x +ℤ y +ℤ z) → nat_abs x + nat_abs y + nat_abs z ≡ nat_abs (x +ℤ y +ℤ z) →
    Nonneg x × Nonneg y × Nonneg z
sizes_nonneg x y z p e = (
  tight x (none (slack y) (slack z)
      (ring1 ρ (v 4 :- v 1 :+ (v 5 :- v 2)) (neg (v 3 :- v 0)) I sizes numbers whole refl)),
  tight y (none (slack x) (slack z)
      (ring1 ρ (v 3 :- v 0 :+ (v 5 :- v 2)) (neg (v 4 :- v 1)) I sizes numbers whole refl)),
  tight z (none (slack x) (slack y)
      (ring1 ρ (v 3 :- v 0 :+ (v 4 :- v 1)) (neg (v 5 :- v 2)) I sizes numbers whole refl)),
)
  where
    ρ : List ℤ
    ρ = x ∷ y ∷ z ∷ pos (nat_abs x) ∷ pos (nat_abs y) ∷ pos (nat_abs z) ∷ []

    numbers : E
    numbers = v 0 :+ v 1 :+ v 2

    sizes : E
    sizes = v 3 :+ v 4 :+ v 5

    whole : pos (nat_abs x + nat_abs y + nat_abs z) ≡ x +ℤ y +ℤ z
    whole = ap pos e ∙ nonneg_size (positive_nonneg p)

    none : {k l m : ℤ} → Nonneg k → Nonneg l → k +ℤ l ≡ m → Nonneg m
    none h k q = subst Nonneg q (nonneg_add h k)

nonneg_sizes : (x y z : ℤ) → Nonneg x → Nonneg y → Nonneg z → nat_abs x + nat_abs y + nat_abs z ≡ nat_abs (x +ℤ y +ℤ z)
nonneg_sizes x y z p q r = ap nat_abs (ap₂ ◌+ℤ◌ (ap₂ ◌+ℤ◌ (nonneg_size p) (nonneg_size q)) (nonneg_size r))

-- ---- the order of the corners
pub area_round : (a b c : Point) → area b c a ≡ area a b c
area_round a b c = ap nat_abs (ring (env4 a b c c) (TurnE B C A) (TurnE A B C) refl)

area_swap : (a b c : Point) → area b a c ≡ area a b c
area_swap a b c = ap nat_abs (ring (env4 a b c c) (TurnE B A C) (neg (TurnE A B C)) refl) ∙ neg_size (turn_of a b c)

area_back : (a b c : Point) → area a c b ≡ area a b c
area_back a b c = ap nat_abs (ring (env4 a b c c) (TurnE A C B) (neg (TurnE A B C)) refl) ∙ neg_size (turn_of a b c)

-- two corners in one place make no area
pub no_area_from : (p q : Point) → area p p q ≡ 0
no_area_from p q = ap nat_abs (ring (env4 p q p p) (TurnE A A B) O refl)

pub no_area_to : (p q : Point) → area p q p ≡ 0
no_area_to p q = ap nat_abs (ring (env4 p q p p) (TurnE A B A) O refl)

-- ---- the areas add up
abbrev pub Adds : Point → Point → Point → Point → Type 0
Adds e a b c = area e b c + area e c a + area e a b ≡ area a b c

swap_adds : (a b c e : Point) → Adds e b a c → Adds e a b c
swap_adds a b c e h = omega (arith, h, area_swap a b c, area_back e a b, area_back e b c, area_back e c a)

sum_is : (a b c e : Point) → turn_of e b c +ℤ turn_of e c a +ℤ turn_of e a b ≡ turn_of a b c
sum_is a b c e = ring (env4 a b c e) (TurnE D B C :+ TurnE D C A :+ TurnE D A B) (TurnE A B C) refl

turned_over : (a b c : Point) → Positive (neg_ℤ (turn_of a b c)) → Positive (turn_of b a c)
turned_over a b c n = by_ring (env4 a b c c) Positive (neg (TurnE A B C)) (TurnE B A C) refl n

left_adds : (a b c e : Point) → Positive (turn_of a b c) → Lies e a b c ↔ Adds e a b c
left_adds a b c e n =
    let s = lies_weighs a b c e n in
    let t = sum_is a b c e in (
      λ l. let w = s.0 l in
          nonneg_sizes (turn_of e b c) (turn_of e c a) (turn_of e a b) w.0 w.1 w.2 ∙ ap nat_abs t,
      λ h. s.1 (sizes_nonneg (turn_of e b c) (turn_of e c a) (turn_of e a b) (subst Positive (sym t) n)
          (h ∙ ap nat_abs (sym t))),
    )

either_adds : (a b c e : Point) → 0 < area a b c → Lies e a b c ↔ Adds e a b c
either_adds a b c e p = go (sign (turn_of a b c))
  where
    go : Sign (turn_of a b c) → Lies e a b c ↔ Adds e a b c
    go (plus n) = left_adds a b c e n
    go (nought z) = absurd (omega (arith, p, ap nat_abs z))
    go (minus n) =
        let s = left_adds b a c e (turned_over a b c n) in
        ((λ l. swap_adds a b c e (s.0 (swap_lies e a b c l))), (λ h. swap_lies e b a c (s.1 (swap_adds b a c e h))))

pub in_adds : (a b c e : Point) → 0 < area a b c → InOrOn (triangle a b c) (spot e) ↔ Adds e a b c
in_adds a b c e p =
    let s = either_adds a b c e p in
    ((λ h. s.0 (in_lies a b c e h)), (λ h. lies_in a b c e (s.1 h)))

-- ---- of a point that is in or on, all areas are turns with one sign s, which is 1 or -1
pub record OneSign (a b c e : Point) : Type 0 where
  pub s : ℤ
  pub whole : pos (area a b c) ≡ s *ℤ turn_of a b c
  pub of_a : pos (area e b c) ≡ s *ℤ turn_of e b c
  pub of_b : pos (area e c a) ≡ s *ℤ turn_of e c a
  pub of_c : pos (area e a b) ≡ s *ℤ turn_of e a b

once : (z : ℤ) → Nonneg z → pos (nat_abs z) ≡ pos 1 *ℤ z
once z h = nonneg_size h ∙ ring (z ∷ []) (v 0) (I :* v 0) refl

minus_once : (z : ℤ) → Nonneg (neg_ℤ z) → pos (nat_abs z) ≡ negsuc 0 *ℤ z
minus_once z h = ap pos (sym (neg_size z)) ∙ nonneg_size h ∙ ring (z ∷ []) (neg (v 0)) (con (negsuc 0) :* v 0) refl

pub one_sign : (a b c e : Point) → 0 < area a b c → InOrOn (triangle a b c) (spot e) → OneSign a b c e
one_sign a b c e p h = go (sign (turn_of a b c))
  where
    go : Sign (turn_of a b c) → OneSign a b c e
    go (plus n) =
        let w = (lies_weighs a b c e n).0 (in_lies a b c e h) in
        record {
          s = pos 1;
          whole = once (turn_of a b c) (positive_nonneg n);
          of_a = once (turn_of e b c) w.0;
          of_b = once (turn_of e c a) w.1;
          of_c = once (turn_of e a b) w.2;
        }
    go (nought z) = absurd (omega (arith, p, ap nat_abs z))
    go (minus n) =
        let w = (lies_weighs b a c e (turned_over a b c n)).0 (swap_lies e a b c (in_lies a b c e h)) in
        record {
          s = negsuc 0;
          whole = minus_once (turn_of a b c) (positive_nonneg n);
          of_a = minus_once (turn_of e b c) (by_ring (env4 a b c e) Nonneg (TurnE D C B) (neg (TurnE D B C)) refl w.1);
          of_b = minus_once (turn_of e c a) (by_ring (env4 a b c e) Nonneg (TurnE D A C) (neg (TurnE D C A)) refl w.0);
          of_c = minus_once (turn_of e a b) (by_ring (env4 a b c e) Nonneg (TurnE D B A) (neg (TurnE D A B)) refl w.2);
        }
