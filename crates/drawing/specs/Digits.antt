-- What the digits of masks tell of the sides: those that a corner lies right of and along, as what is left over, and
-- those that are to be looked at for two corners.
use Rattle.std.specs.Prelude.{◌≡◌, refl, ◌⊎◌, List, ℕ, zero, suc, ◌+◌, ◌%◌, ◌^◌, ◌≤◌, ◌<◌, min, max, ℤ, pos, ◌<ℤ◌}
use Rattle.std.proofs.Common.{sym, ap, ◌∙◌, subst, inl, inr, arith}
use Rattle.std.proofs.Math.Logic.{by_cases}
use Rattle.std.proofs.Math.Decide.{ℕ_discrete, dec_lt}
use Rattle.std.specs.Int.Bits.{bit_and, bit_or, bit_xor}
use Rattle.std.specs.Int.Signed.{<ℤ_irrefl, clash_ℤ}
use Rattle.whole.specs.Order.{Positive, Sign, plus, nought, minus, sign, below, <ℤ_le}
use Rattle.whole.specs.Bits.{bit, bit_small, bit-and, bit-or, bit-xor, bit_one, bit_only}
use Rattle.whole.specs.Masks.{Marks, marked, unmarked}
use Rattle.outline.specs.Drawing.{corner, corners, prev, after, EndsAt}
use Rattle.outline.specs.Round.{next_prev, prev_next, prev_below}
use Rattle.outline.specs.Segments.{Apart, apart_off}
use Rattle.outline.specs.Extent.{reach_low, reach_west}
use Rattle.drawing.specs.Looking.{at_own}
use Rattle.drawing.specs.Known.{side_turn, Left, Right, OnLine, Along, Open, Hides, Looks, Reaches, Knows}
use Rattle.drawing.specs.declared.masks.Known.{Known}

-- what is left over of one mask without two others
folded : (a b : ℕ) → (a % 2 + b) % 2 ≡ (a + b) % 2
folded a b = omega arith

left_over : (a b c k : ℕ) → bit (bit_xor (bit_xor a b) c) k ≡ (bit a k + bit b k + bit c k) % 2
left_over a b c k =
    bit-xor (bit_xor a b) c k ∙ ap (λ t. (t + bit c k) % 2) (bit-xor a b k) ∙ folded (bit a k + bit b k) (bit c k)

-- a side that reaches far enough on one axis is marked
reached : (m k : ℕ) {n u w : ℕ} {p q : ℤ} {P Q : ℕ → Type 0} → n ≤ 64 → k < n → Marks n u P → Marks n w Q →
    Reaches p u q w m → (p ≡ q) ⊎ (P k ⊎ Q k) → bit m k ≡ 1
reached m k few l f g r (inl e) = r k (omega (arith, l, few)) (inl e)
reached m k few l f g r (inr (inl x)) = r k (omega (arith, l, few)) (inr (inl (marked f k l x)))
reached m k few l f g r (inr (inr x)) = r k (omega (arith, l, few)) (inr (inr (marked g k l x)))

-- three digits, or else a fourth
first : (x y z w : ℕ) → x < 2 → max (min (min x y) z) w ≡ 1 → w ≡ 0 → x ≡ 1
first x y z w h e n = omega (arith, h, e, n)

three : (x y z w : ℕ) → x ≡ 1 → y ≡ 1 → z ≡ 1 → w < 2 → max (min (min x y) z) w ≡ 1
three x y z w a b c h = omega (arith, a, b, c, h)

fourth : (x y z w : ℕ) → x < 2 → w ≡ 1 → max (min (min x y) z) w ≡ 1
fourth x y z w h e = omega (arith, h, e)

-- the digits of `apart & low & west | along`, where `along` is of two masks in either order
module _ (l r a l' r' a' low west k : ℕ) where
  abbrev apart_or : ℕ → ℕ
  apart_or z = max (min (min (max (min (bit l k) (bit r' k)) (min (bit r k) (bit l' k))) (bit low k)) (bit west k)) z

  abbrev near : ℕ
  near = bit_and (bit_and (bit_or (bit_and l r') (bit_and r l')) low) west

  pub look_digits : bit (bit_or near (bit_and a a')) k ≡ apart_or (min (bit a k) (bit a' k))
  look_digits = simp (bit-or, bit-and)

  pub look_digits_back : bit (bit_or near (bit_and a' a)) k ≡ apart_or (min (bit a k) (bit a' k))
  look_digits_back = let e : min (bit a' k) (bit a k) ≡ min (bit a k) (bit a' k) = omega arith in
      simp (bit-or, bit-and) (ap apart_or e)

prev_other : (n i : ℕ) → 1 < n → ¬ (prev n i ≡ i)
prev_other n zero l e = omega (arith, l, e)
prev_other n (suc i) l e = omega (arith, e)

module _ (d : List ℤ) where
  -- ---- right are those of all that are neither left nor flat
  module _ (i : ℕ) {o l f : ℕ} (all : Marks (corners d) o (λ k. k ≡ k)) (left : Marks (corners d) l (Left d i))
      (flat : Marks (corners d) f (OnLine d i)) where
    abbrev right : ℕ
    right = bit_xor (bit_xor o l) f

    off_line : (k : ℕ) → ¬ (side_turn d i k ≡ pos 0) → bit f k ≡ 0
    off_line k n = unmarked flat k (λ y. n y.1)

    not_left : (k : ℕ) → ¬ Left d i k → bit l k ≡ 0
    not_left k n = unmarked left k (λ y. n y.1)

    turned : (k : ℕ) → k < corners d → bit right k ≡ 1 → Sign (side_turn d i k) → Right d i k
    turned k b e (plus s) =
        absurd (omega (
          arith,
          e,
          left_over o l f k,
          marked all k b refl,
          marked left k b s,
          off_line k (λ z. <ℤ_irrefl (subst Positive z s)),
        ))
    turned k b e (nought s) =
        absurd (omega (
          arith,
          e,
          left_over o l f k,
          marked all k b refl,
          marked flat k b s,
          not_left k (λ y. <ℤ_irrefl (subst Positive s y)),
        ))
    turned k b e (minus s) = below s

    pub right_marks : Marks (corners d) right (Right d i)
    right_marks = record { yes = yes; no = no }
      where
        none : {m : ℕ} {P : ℕ → Type 0} (k : ℕ) → ¬ (k < corners d) → Marks (corners d) m P → bit m k ≡ 0
        none k b m = unmarked m k (λ y. b y.0)

        above : (k : ℕ) → ¬ (k < corners d) → bit right k ≡ 0
        above k b = omega (arith, left_over o l f k, none k b all, none k b left, none k b flat)

        yes : (k : ℕ) → bit right k ≡ 1 → (k < corners d) × Right d i k
        yes k e =
            by_cases (dec_lt k (corners d)) (λ b. (b, turned k b e (sign (side_turn d i k))))
            (λ b. absurd (omega (arith, e, above k b)))

        no : (k : ℕ) → k < corners d → bit right k ≡ 0 → ¬ Right d i k
        no k b e h =
            omega (
              arith,
              e,
              left_over o l f k,
              marked all k b refl,
              not_left k (λ y. clash_ℤ y (<ℤ_le h)),
              off_line k (λ z. <ℤ_irrefl (subst (λ t. t <ℤ pos 0) z h)),
            )

  -- ---- along are the flat ones but for the two that end at i
  module _ (i : ℕ) (hi : i < corners d) (many : 1 < corners d) {f : ℕ} (flat : Marks (corners d) f (OnLine d i)) where
    abbrev h : ℕ
    h = prev (corners d) i

    abbrev along : ℕ
    along = bit_xor (bit_xor f (2 ^ h)) (2 ^ i)

    -- the digits of the two sides that end at i
    ends_no : (k : ℕ) → ¬ EndsAt d k i → (bit (2 ^ i) k ≡ 0) × (bit (2 ^ h) k ≡ 0)
    ends_no k n = (
      bit_only i k (λ e. n (inl e)),
      bit_only h k (λ e. n (inr (subst (λ y. after d y ≡ i) (sym e) (next_prev (corners d) i hi)))),
    )

    ends_yes : (k : ℕ) → k < corners d → EndsAt d k i → bit (2 ^ i) k + bit (2 ^ h) k ≡ 1
    ends_yes k b (inl e) =
        let other : ¬ (h ≡ i) = prev_other (corners d) i many in
        omega (arith, subst (λ y. bit (2 ^ i) y ≡ 1) (sym e) (bit_one i), bit_only h k (λ z. other (sym z ∙ e)))
    ends_yes k b (inr e) =
        let z : k ≡ h = sym (ap (prev (corners d)) (sym e) ∙ prev_next (corners d) k b) in
        omega (
          arith,
          subst (λ y. bit (2 ^ h) y ≡ 1) (sym z) (bit_one h),
          bit_only i k (λ y. prev_other (corners d) i many (sym z ∙ y)),
        )

    pub along_marks : Marks (corners d) along (Along d i)
    along_marks = record { yes = yes; no = no }
      where
        inside : (k : ℕ) → bit along k ≡ 1 → k < corners d
        inside k e =
            by_cases (dec_lt k (corners d)) (λ b. b)
            (λ b. absurd (omega (
              arith,
              e,
              left_over f (2 ^ h) (2 ^ i) k,
              unmarked flat k (λ y. b y.0),
              bit_only i k (λ z. b (omega (arith, z, hi))),
              bit_only h k (λ z. b (omega (arith, z, prev_below (corners d) i hi))),
            )))

        no_end : (k : ℕ) → k < corners d → bit along k ≡ 1 → ¬ EndsAt d k i
        no_end k b e ends =
            omega (arith, e, left_over f (2 ^ h) (2 ^ i) k, marked flat k b (at_own d i k ends), ends_yes k b ends)

        yes : (k : ℕ) → bit along k ≡ 1 → (k < corners d) × Along d i k
        yes k e =
            let b = inside k e in
            let n = no_end k b e in
            let z = ends_no k n in
            (b, ((flat.yes k (omega (arith, e, left_over f (2 ^ h) (2 ^ i) k, z.0, z.1, bit_small f k))).1, n))

        no : (k : ℕ) → k < corners d → bit along k ≡ 0 → ¬ Along d i k
        no k b e a =
            let z = ends_no k a.1 in
            omega (arith, e, left_over f (2 ^ h) (2 ^ i) k, marked flat k b a.0, z.0, z.1)

  -- ---- to be looked at are those with i and j apart that reach far enough, and those along which both lie
  module _ {i j : ℕ} {a b : Known} (f : Knows d i a) (g : Knows d j b) (few : corners d ≤ 64) {low west : ℕ}
      (lows : Reaches (corner d i).y a.low (corner d j).y b.low low)
      (wests : Reaches (corner d i).x a.west (corner d j).x b.west west) where
    abbrev apart : ℕ → ℕ
    apart k = max (min (bit a.left k) (bit b.right k)) (min (bit a.right k) (bit b.left k))

    apart_is : (k : ℕ) → apart k ≡ 1 → (k < corners d) × Apart (side_turn d i k) (side_turn d j k)
    apart_is k e =
        by_cases (ℕ_discrete (min (bit a.left k) (bit b.right k)) 0)
        (λ z. let p = f.right_of.yes k (omega (arith, bit_small a.right k, z, e)) in
        (p.0, inr (p.1, (g.left_of.yes k (omega (arith, bit_small b.left k, z, e))).1)))
        (λ z. let p = f.left_of.yes k (omega (arith, bit_small a.left k, z)) in
        (p.0, inl (p.1, (g.right_of.yes k (omega (arith, bit_small b.right k, z))).1)))

    apart_to : (k : ℕ) → k < corners d → Apart (side_turn d i k) (side_turn d j k) → apart k ≡ 1
    apart_to k l (inl x) =
        omega (arith, marked f.left_of k l x.0, marked g.right_of k l x.1, bit_small a.right k)
    apart_to k l (inr x) =
        omega (arith, marked f.right_of k l x.0, marked g.left_of k l x.1, bit_small a.left k)

    apart_small : (k : ℕ) → apart k < 2
    apart_small k = omega (arith, bit_small a.left k, bit_small a.right k)

    abbrev both : ℕ → ℕ
    both k = min (bit a.along k) (bit b.along k)

    pub looks : {m : ℕ} → ((k : ℕ) → bit m k ≡ max (min (min (apart k) (bit low k)) (bit west k)) (both k)) →
        Looks d i j m
    looks {m} is = record { is_open = is_open; all = all }
      where
        is_open : (k : ℕ) → bit m k ≡ 1 → (k < corners d) × Open d i j k
        is_open k e =
            by_cases (ℕ_discrete (both k) 0)
            (λ z. let p = apart_is k
            (first (apart k) (bit low k) (bit west k) (both k) (apart_small k) (sym (is k) ∙ e) z) in
            (p.0, inl p.1))
            (λ z. let p = f.along_of.yes k (omega (arith, bit_small a.along k, z)) in
            (p.0, inr (p.1, (g.along_of.yes k (omega (arith, bit_small b.along k, z))).1)))

        all : (k : ℕ) → k < corners d → Open d i j k → Hides d i j k → bit m k ≡ 1
        all k l (inl x) s =
            let ni : ¬ (side_turn d i k ≡ pos 0) = λ e. apart_off x (inl e) in
            let nj : ¬ (side_turn d j k ≡ pos 0) = λ e. apart_off x (inr e) in
            is k ∙ three (apart k) (bit low k) (bit west k) (both k) (apart_to k l x)
            (reached low k few l f.low_of g.low_of lows (reach_low ni nj s))
            (reached west k few l f.west_of g.west_of wests (reach_west ni nj s))
            (omega (arith, bit_small a.along k))
        all k l (inr x) s =
            is k ∙ fourth (apart k) (bit low k) (bit west k) (both k) (apart_small k)
            (omega (arith, marked f.along_of k l x.0, marked g.along_of k l x.1))
