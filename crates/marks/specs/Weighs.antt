-- A point is in or on three corners that turn left exactly when each of them weighs at least nothing: none of the
-- three turns that the point makes with two of them is to the right.
--
--            c          Turn(e,b,c) is what a weighs, Turn(e,c,a) what b weighs, Turn(e,a,b) what c weighs.
--           / \         The proof goes by which corners are higher than e: all, none, or one that is alone.
--          / e \
--         a --- b
use Rattle.std.specs.Prelude.{◌≡◌, refl, Bool, true, false, not, ◌⊎◌, ◌↔◌, List, T, ℤ, pos, neg_ℤ, ◌-ℤ◌, ◌*ℤ◌, ◌≤ℤ◌, ◌<ℤ◌}
use Rattle.std.proofs.Common.{sym, ◌∙◌, subst, inl, inr}
use Rattle.std.specs.Int.Signed.{lt_z, lt_z_yes, lt_z_no, clash_ℤ, <ℤ_irrefl}
use Rattle.whole.specs.Ring.{E, ◌:+◌, ◌:-◌, ◌:*◌, neg, ring1, ring2, by_ring}
use Rattle.whole.specs.Order.{Nonneg, Positive, nonneg_add, nonneg_mul, nonneg_pos}
use Rattle.whole.specs.Order.{positive_add, positive_mul, positive_nonneg}
use Rattle.whole.specs.Order.{positive_not, positive_pred, positive_cancel, nonneg_cancel, nonneg_zero, zero_cancel}
use Rattle.whole.specs.Order.{le_sub, sub_le, lt_sub, Sign, plus, nought, minus, sign}
use Rattle.outline.specs.Drawing.{Point, turn_of}
use Rattle.outline.specs.Passing.{higher, left}
use Rattle.outline.specs.Odd.{◌⊕◌}
use Rattle.outline.specs.Tells.{is_yes, is_no}
use Rattle.outline.specs.Tests.{lt_tells}
use Rattle.outline.specs.Spell.{A, B, C, D, P, Q, O, I, env, env4, TurnE, At}
use Rattle.marks.specs.Lies.{On, crossings, Lies, round_lies}

abbrev pub Weighs : Point → Point → Point → Point → Type 0
Weighs e a b c = Nonneg (turn_of e b c) × Nonneg (turn_of e c a) × Nonneg (turn_of e a b)

-- the three weights and their sum, spelled: A, B, C, D are a, b, c and e
abbrev wa : E
wa = TurnE D B C

abbrev wb : E
wb = TurnE D C A

abbrev wc : E
wc = TurnE D A B

abbrev whole : E
whole = TurnE A B C

-- ---- what a test of two numbers tells
data Test (x y : ℤ) : Bool → Type 0 where
  less : x <ℤ y → Test x y true
  not_less : y ≤ℤ x → Test x y false

test : (x y : ℤ) → Test x y (lt_z x y)
test x y = go (lt_z x y) refl
  where
    go : (b : Bool) → lt_z x y ≡ b → Test x y b
    go true e = less (lt_z_yes (subst T (sym e) tt))
    go false e = not_less (lt_z_no (subst (λ t. T (not t)) (sym e) tt))

is_less : {x y : ℤ} → x <ℤ y → lt_z x y ≡ true
is_less h = is_yes (lt_tells _ _) h

is_not_less : {x y : ℤ} → y ≤ℤ x → lt_z x y ≡ false
is_not_less h = is_no (lt_tells _ _) (λ k. clash_ℤ k h)

-- ---- the corners from the next one on
turn_round : (a b c : Point) → Positive (turn_of a b c) → Positive (turn_of b c a)
turn_round a b c n = by_ring (env4 a b c c) Positive whole (TurnE B C A) refl n

round_weighs : (e a b c : Point) → Weighs e a b c → Weighs e b c a
round_weighs e a b c w = (w.1, w.2, w.0)

-- ---- on a side
abbrev on_abx : E
on_abx = I :* At Q A.x P B.x

abbrev on_aby : E
on_aby = I :* At Q A.y P B.y

module _ (a b c e : Point) (n : Positive (turn_of a b c)) where
  abbrev ρ : List ℤ
  ρ = env4 a b c e

  -- a point of ab weighs by its place: a by q - p, b by p, c by nothing
  on_weighs : On e a b → Weighs e a b c
  on_weighs o =
      let σ = env a b c e o.p o.q (pos 0) in
      let m = positive_nonneg n in (
        nonneg_cancel o.q_above (subst Nonneg
            (ring2 σ ((Q :- P) :* whole) (Q :* wa) (B.y :- C.y) on_abx (Q :* D.x) (C.x :- B.x) on_aby (Q :* D.y)
            o.on_x o.on_y refl) (nonneg_mul (le_sub o.p_to) m)),
        nonneg_cancel o.q_above (subst Nonneg
            (ring2 σ (P :* whole) (Q :* wb) (C.y :- A.y) on_abx (Q :* D.x) (A.x :- C.x) on_aby (Q :* D.y)
            o.on_x o.on_y refl) (nonneg_mul o.p_from m)),
        nonneg_cancel o.q_above (subst Nonneg
            (ring2 σ O (Q :* wc) (A.y :- B.y) on_abx (Q :* D.x) (B.x :- A.x) on_aby (Q :* D.y)
            o.on_x o.on_y refl) (nonneg_pos 0)),
      )

  -- where b weighs nothing the point is on ca, at the part that a weighs
  between_ca : Weighs e a b c → turn_of e c a ≡ pos 0 → On e c a
  between_ca w z =
      record {
        p = turn_of e b c;
        q = turn_of a b c;
        q_above = n;
        p_from = w.0;
        p_to = sub_le (subst Nonneg (ring1 ρ wc (whole :- wa) (neg I) wb O z refl) w.2);
        on_x = ring1 ρ (I :* At whole C.x wa A.x) (whole :* D.x) (C.x :- B.x) wb O z refl;
        on_y = ring1 ρ (I :* At whole C.y wa A.y) (whole :* D.y) (C.y :- B.y) wb O z refl;
      }

between_ab : (a b c e : Point) → Positive (turn_of a b c) → Weighs e a b c → turn_of e a b ≡ pos 0 → On e a b
between_ab a b c e n w z = between_ca b c a e (turn_round a b c n) (round_weighs e a b c w) z

between_bc : (a b c e : Point) → Positive (turn_of a b c) → Weighs e a b c → turn_of e b c ≡ pos 0 → On e b c
between_bc a b c e n w z = between_ab b c a e (turn_round a b c n) (round_weighs e a b c w) z

-- ---- a alone is higher: ab falls past e and ca rises. Heights weigh up: wa (a - e) = wb (e - b) + wc (e - c)
module _ (a b c e : Point) (n : Positive (turn_of a b c)) (ha : e.y <ℤ a.y) (hb : b.y ≤ℤ e.y)
    (hc : c.y ≤ℤ e.y) where
  abbrev up_crossings : Bool
  up_crossings = left e c a ⊕ (false ⊕ (left e b a ⊕ false))

  up_weighs : T up_crossings → Weighs e a b c
  up_weighs t = go (left e b a) (left e c a) (test (pos 0) (turn_of b a e)) (test (pos 0) (turn_of c a e)) t
    where
      go : (x y : Bool) → Test (pos 0) (turn_of b a e) x → Test (pos 0) (turn_of c a e) y →
          T (y ⊕ (false ⊕ (x ⊕ false))) →
          Weighs e a b c
      go true true f g t = absurd t
      go false false f g t = absurd t
      go false true (not_less f) (less g) t =
          let p : Nonneg (turn_of e c a) = by_ring (env4 a b c e) Nonneg (TurnE C A D) wb refl (positive_nonneg g) in
          let q : Nonneg (turn_of e a b) = by_ring (env4 a b c e) Nonneg (O :- TurnE B A D) wc refl (le_sub f) in
          let u : Nonneg ((a.y -ℤ e.y) *ℤ turn_of e b c) =
          by_ring (env4 a b c e) Nonneg (wb :* (D.y :- B.y) :+ wc :* (D.y :- C.y)) ((A.y :- D.y) :* wa) refl
          (nonneg_add (nonneg_mul p (le_sub hb)) (nonneg_mul q (le_sub hc))) in
          (nonneg_cancel (lt_sub ha) u, p, q)
      go true false (less f) (not_less g) t =
          let p : Nonneg (neg_ℤ (turn_of e c a)) =
          by_ring (env4 a b c e) Nonneg (O :- TurnE C A D) (neg wb) refl (le_sub g) in
          let q : Nonneg (neg_ℤ (turn_of e a b)) =
          by_ring (env4 a b c e) Nonneg (TurnE B A D) (neg wc) refl (positive_nonneg f) in
          let u : Nonneg ((a.y -ℤ e.y) *ℤ neg_ℤ (turn_of e b c)) =
          by_ring (env4 a b c e) Nonneg (neg wb :* (D.y :- B.y) :+ neg wc :* (D.y :- C.y))
          ((A.y :- D.y) :* neg wa) refl
          (nonneg_add (nonneg_mul p (le_sub hb)) (nonneg_mul q (le_sub hc))) in
          positive_not n (by_ring (env4 a b c e) Nonneg (neg wc :+ (neg wb :+ neg wa)) (neg whole) refl
          (nonneg_add q (nonneg_add p (nonneg_cancel (lt_sub ha) u))))

  up_lies : Weighs e a b c → On e c a ⊎ T up_crossings
  up_lies w = go (left e b a) (left e c a) (test (pos 0) (turn_of b a e)) (test (pos 0) (turn_of c a e))
    where
      go : (x y : Bool) → Test (pos 0) (turn_of b a e) x → Test (pos 0) (turn_of c a e) y →
          On e c a ⊎ T (y ⊕ (false ⊕ (x ⊕ false)))
      go true y (less f) g = positive_not f (by_ring (env4 a b c e) Nonneg wc (neg (TurnE B A D)) refl w.2)
      go false true f g = inr tt
      go false false f (not_less g) =
          inl (between_ca a b c e n w
          (nonneg_zero w.1 (by_ring (env4 a b c e) Nonneg (O :- TurnE C A D) (neg wb) refl (le_sub g))))

-- ---- a alone is not higher: ab rises past e and ca falls
module _ (a b c e : Point) (n : Positive (turn_of a b c)) (ha : a.y ≤ℤ e.y) (hb : e.y <ℤ b.y)
    (hc : e.y <ℤ c.y) where
  abbrev down_crossings : Bool
  down_crossings = left e a c ⊕ (false ⊕ (left e a b ⊕ false))

  down_weighs : T down_crossings → Weighs e a b c
  down_weighs t = go (left e a b) (left e a c) (test (pos 0) (turn_of a b e)) (test (pos 0) (turn_of a c e)) t
    where
      go : (x y : Bool) → Test (pos 0) (turn_of a b e) x → Test (pos 0) (turn_of a c e) y →
          T (y ⊕ (false ⊕ (x ⊕ false))) →
          Weighs e a b c
      go true true f g t = absurd t
      go false false f g t = absurd t
      go true false (less f) (not_less g) t =
          let p : Nonneg (turn_of e c a) = by_ring (env4 a b c e) Nonneg (O :- TurnE A C D) wb refl (le_sub g) in
          let q : Positive (turn_of e a b) = by_ring (env4 a b c e) Positive (TurnE A B D) wc refl f in
          let u : Positive ((e.y -ℤ a.y) *ℤ turn_of e b c) =
          by_ring (env4 a b c e) Positive (wc :* (C.y :- D.y) :+ wb :* (B.y :- D.y)) ((D.y :- A.y) :* wa) refl
          (positive_add (positive_mul q (lt_sub hc)) (nonneg_mul p (positive_nonneg (lt_sub hb)))) in
          (positive_nonneg (positive_cancel (le_sub ha) u), p, positive_nonneg q)
      go false true (not_less f) (less g) t =
          let p : Positive (neg_ℤ (turn_of e c a)) = by_ring (env4 a b c e) Positive (TurnE A C D) (neg wb) refl g in
          let q : Nonneg (neg_ℤ (turn_of e a b)) =
          by_ring (env4 a b c e) Nonneg (O :- TurnE A B D) (neg wc) refl (le_sub f) in
          let u : Positive ((e.y -ℤ a.y) *ℤ neg_ℤ (turn_of e b c)) =
          by_ring (env4 a b c e) Positive (neg wb :* (B.y :- D.y) :+ neg wc :* (C.y :- D.y))
          ((D.y :- A.y) :* neg wa) refl
          (positive_add (positive_mul p (lt_sub hb)) (nonneg_mul q (positive_nonneg (lt_sub hc)))) in
          positive_not n (by_ring (env4 a b c e) Nonneg (neg wc :+ (neg wb :+ neg wa)) (neg whole) refl
          (nonneg_add q (nonneg_add (positive_nonneg p) (positive_nonneg (positive_cancel (le_sub ha) u)))))

  down_lies : Weighs e a b c → On e a b ⊎ T down_crossings
  down_lies w = go (left e a b) (left e a c) (test (pos 0) (turn_of a b e)) (test (pos 0) (turn_of a c e))
    where
      go : (x y : Bool) → Test (pos 0) (turn_of a b e) x → Test (pos 0) (turn_of a c e) y →
          On e a b ⊎ T (y ⊕ (false ⊕ (x ⊕ false)))
      go x true f (less g) = positive_not g (by_ring (env4 a b c e) Nonneg wb (neg (TurnE A C D)) refl w.1)
      go true false f g = inr tt
      go false false (not_less f) g =
          inl (between_ab a b c e n w
          (nonneg_zero w.2 (by_ring (env4 a b c e) Nonneg (O :- TurnE A B D) (neg wc) refl (le_sub f))))

-- ---- all are higher, or none is: no side crosses
module _ (a b c e : Point) (n : Positive (turn_of a b c)) where
  all_high : e.y <ℤ a.y → e.y <ℤ b.y → e.y <ℤ c.y → ¬ Weighs e a b c
  all_high ha hb hc w =
      positive_not n (by_ring (env4 a b c e) Nonneg
      (wa :* (A.y :- D.y :- I) :+ (wb :* (B.y :- D.y :- I) :+ wc :* (C.y :- D.y :- I))) (neg whole) refl
      (nonneg_add (nonneg_mul w.0 (positive_pred (lt_sub ha)))
      (nonneg_add (nonneg_mul w.1 (positive_pred (lt_sub hb))) (nonneg_mul w.2 (positive_pred (lt_sub hc))))))

  -- three positive weights would put all three corners at the height of e, and then they do not turn
  module _ (ha : a.y ≤ℤ e.y) (hb : b.y ≤ℤ e.y) (hc : c.y ≤ℤ e.y) (w : Weighs e a b c) where
    ta : Nonneg (turn_of e b c *ℤ (e.y -ℤ a.y))
    ta = nonneg_mul w.0 (le_sub ha)

    tb : Nonneg (turn_of e c a *ℤ (e.y -ℤ b.y))
    tb = nonneg_mul w.1 (le_sub hb)

    tc : Nonneg (turn_of e a b *ℤ (e.y -ℤ c.y))
    tc = nonneg_mul w.2 (le_sub hc)

    level_a : Positive (turn_of e b c) → e.y -ℤ a.y ≡ pos 0
    level_a p =
        zero_cancel p (nonneg_zero ta (by_ring (env4 a b c e) Nonneg
        (wb :* (D.y :- B.y) :+ wc :* (D.y :- C.y)) (neg (wa :* (D.y :- A.y))) refl (nonneg_add tb tc)))

    level_b : Positive (turn_of e c a) → e.y -ℤ b.y ≡ pos 0
    level_b p =
        zero_cancel p (nonneg_zero tb (by_ring (env4 a b c e) Nonneg
        (wa :* (D.y :- A.y) :+ wc :* (D.y :- C.y)) (neg (wb :* (D.y :- B.y))) refl (nonneg_add ta tc)))

    level_c : Positive (turn_of e a b) → e.y -ℤ c.y ≡ pos 0
    level_c p =
        zero_cancel p (nonneg_zero tc (by_ring (env4 a b c e) Nonneg
        (wa :* (D.y :- A.y) :+ wb :* (D.y :- B.y)) (neg (wc :* (D.y :- C.y))) refl (nonneg_add ta tb)))

    no_turn : e.y -ℤ a.y ≡ pos 0 → e.y -ℤ b.y ≡ pos 0 → e.y -ℤ c.y ≡ pos 0 → turn_of a b c ≡ pos 0
    no_turn za zb zc =
        ring2 (env4 a b c e) whole (neg ((B.y :- A.y) :* (C.x :- A.x)))
        (B.x :- A.x) (D.y :- A.y) O (neg (B.x :- A.x)) (D.y :- C.y) O za zc refl
        ∙ ring2 (env4 a b c e) (neg ((B.y :- A.y) :* (C.x :- A.x))) O
        (neg (C.x :- A.x)) (D.y :- A.y) O (C.x :- A.x) (D.y :- B.y) O za zb refl

    all_low : On e a b ⊎ (On e b c ⊎ On e c a)
    all_low = go (sign (turn_of e b c)) (sign (turn_of e c a)) (sign (turn_of e a b))
      where
        go : Sign (turn_of e b c) → Sign (turn_of e c a) → Sign (turn_of e a b) → On e a b ⊎ (On e b c ⊎ On e c a)
        go (nought z) q s = inr (inl (between_bc a b c e n w z))
        go (minus p) q s = positive_not p (by_ring (env4 a b c e) Nonneg wa (neg (neg wa)) refl w.0)
        go (plus p) (nought z) s = inr (inr (between_ca a b c e n w z))
        go (plus p) (minus q) s = positive_not q (by_ring (env4 a b c e) Nonneg wb (neg (neg wb)) refl w.1)
        go (plus p) (plus q) (nought z) = inl (between_ab a b c e n w z)
        go (plus p) (plus q) (minus s) = positive_not s (by_ring (env4 a b c e) Nonneg wc (neg (neg wc)) refl w.2)
        go (plus p) (plus q) (plus s) =
            absurd (<ℤ_irrefl (subst Positive (no_turn (level_a p) (level_b q) (level_c s)) n))

-- ---- put together
abbrev Same : Point → Point → Point → Point → Type 0
Same e a b c = Lies e a b c ↔ Weighs e a b c

from_odd : (a b c e : Point) → Positive (turn_of a b c) → (T (crossings e a b c) → Weighs e a b c) → Lies e a b c →
    Weighs e a b c
from_odd a b c e n f (inl (inl o)) = on_weighs a b c e n o
from_odd a b c e n f (inl (inr (inl o))) =
    let w = on_weighs b c a e (turn_round a b c n) o in
    (w.2, w.0, w.1)
from_odd a b c e n f (inl (inr (inr o))) =
    let w = on_weighs c a b e (turn_round b c a (turn_round a b c n)) o in
    (w.1, w.2, w.0)
from_odd a b c e n f (inr t) = f t

round_same : (a b c e : Point) → Same e b c a → Same e a b c
round_same a b c e s = (
  λ l. let w = s.0 (round_lies e a b c l) in (w.2, w.0, w.1),
  λ w. round_lies e c a b (round_lies e b c a (s.1 (round_weighs e a b c w))),
)

up_same : (a b c e : Point) → Positive (turn_of a b c) → e.y <ℤ a.y → b.y ≤ℤ e.y → c.y ≤ℤ e.y → Same e a b c
up_same a b c e n ha hb hc = (from_odd a b c e n there, λ w. back (up_lies a b c e n ha hb hc w))
  where
    there : T (crossings e a b c) → Weighs e a b c
    there t = up_weighs a b c e n ha hb hc (rw (is_less ha, is_not_less hb, is_not_less hc) at t)

    back : On e c a ⊎ T (left e c a ⊕ (false ⊕ (left e b a ⊕ false))) → Lies e a b c
    back (inl o) = inl (inr (inr o))
    back (inr t) = inr (rw (is_less ha, is_not_less hb, is_not_less hc) t)

down_same : (a b c e : Point) → Positive (turn_of a b c) → a.y ≤ℤ e.y → e.y <ℤ b.y → e.y <ℤ c.y → Same e a b c
down_same a b c e n ha hb hc = (from_odd a b c e n there, λ w. back (down_lies a b c e n ha hb hc w))
  where
    there : T (crossings e a b c) → Weighs e a b c
    there t = down_weighs a b c e n ha hb hc (rw (is_not_less ha, is_less hb, is_less hc) at t)

    back : On e a b ⊎ T (left e a c ⊕ (false ⊕ (left e a b ⊕ false))) → Lies e a b c
    back (inl o) = inl (inl o)
    back (inr t) = inr (rw (is_not_less ha, is_less hb, is_less hc) t)

pub lies_weighs : (a b c e : Point) → Positive (turn_of a b c) → Lies e a b c ↔ Weighs e a b c
lies_weighs a b c e n =
    go (higher e a) (higher e b) (higher e c) (test e.y a.y) (test e.y b.y) (test e.y c.y)
  where
    n1 : Positive (turn_of b c a)
    n1 = turn_round a b c n

    n2 : Positive (turn_of c a b)
    n2 = turn_round b c a n1

    go : (s t u : Bool) → Test e.y a.y s → Test e.y b.y t → Test e.y c.y u → Same e a b c
    go true true true (less h) (less k) (less l) = (
      from_odd a b c e n (λ t. absurd (rw (is_less h, is_less k, is_less l) at t)),
      λ w. absurd
          (all_high a b c e n h k l w),
    )
    go false false false (not_less h) (not_less k) (not_less l) = (
      from_odd a b c e n (λ t. absurd (rw (is_not_less h, is_not_less k, is_not_less l) at t)),
      λ w. inl (all_low a b c e n h k l w),
    )
    go true false false (less h) (not_less k) (not_less l) = up_same a b c e n h k l
    go false true true (not_less h) (less k) (less l) = down_same a b c e n h k l
    go false true false (not_less h) (less k) (not_less l) = round_same a b c e (up_same b c a e n1 k l h)
    go true false true (less h) (not_less k) (less l) = round_same a b c e (down_same b c a e n1 k l h)
    go false false true (not_less h) (not_less k) (less l) =
        round_same a b c e (round_same b c a e (up_same c a b e n2 l h k))
    go true true false (less h) (less k) (not_less l) =
        round_same a b c e (round_same b c a e (down_same c a b e n2 l h k))
