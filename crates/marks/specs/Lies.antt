-- In or on three corners: on one of the three sides, or an odd number of them cross, each told by a truth value. The
-- corners may be named in any order.
use Rattle.std.specs.Prelude.{◌≡◌, refl, Bool, true, false, ◌⊎◌, List, [], ◌∷◌, ℕ, zero, suc, ◌<◌, T, ℤ}
use Rattle.std.proofs.Common.{sym, subst, inl, inr, arith, lit<}
use Rattle.whole.specs.Ring.{v, ◌:*◌, ring}
use Rattle.outline.specs.Drawing.{Point, corner, after}
use Rattle.outline.specs.InOrOn.{spot, OnSegment, OnSide, RightSide, OddCount, InOrOn}
use Rattle.outline.specs.OnSegment.{on_turned}
use Rattle.outline.specs.Passing.{higher, left, passes, crosses, grown}
use Rattle.outline.proofs.Passing.{passing}
use Rattle.outline.specs.Odd.{◌⊕◌, odd, odd_tells}
use Rattle.outline.specs.Spell.{I}
use Rattle.outline.specs.Tells.{Tells}
use Rattle.marks.specs.Lands.{triangle}

abbrev pub On : Point → Point → Point → Type 0
On e a b = OnSegment (spot e) a b

abbrev pub crossings : Point → Point → Point → Point → Bool
crossings e a b c = crosses e c a ⊕ (crosses e b c ⊕ (crosses e a b ⊕ false))

abbrev pub Lies : Point → Point → Point → Point → Type 0
Lies e a b c = (On e a b ⊎ (On e b c ⊎ On e c a)) ⊎ T (crossings e a b c)

-- ---- it is 01's sentence
module _ (a b c e : Point) where
  abbrev d : List ℤ
  d = triangle a b c

  grown_one : (p : Point) → grown (spot e) p ≡ p
  grown_one p =
      λ i. record { x = ring (p.x ∷ []) (I :* v 0) (v 0) refl i; y = ring (p.y ∷ []) (I :* v 0) (v 0) refl i }

  abbrev crossed : ℕ → Bool
  crossed i = crosses e (grown (spot e) (corner d i)) (grown (spot e) (corner d (after d i)))

  odd_sides : Tells (odd crossed 3) (OddCount (RightSide d (spot e)) 3)
  odd_sides = odd_tells (RightSide d (spot e)) crossed 3 (λ i h. passing (spot e) (corner d i) (corner d (after d i)))

  odd_is : odd crossed 3 ≡ crossings e a b c
  odd_is = λ i. crossings e (grown_one a i) (grown_one b i) (grown_one c i)

  on_a_side : (i : ℕ) → i < 3 → OnSide d (spot e) i → On e a b ⊎ (On e b c ⊎ On e c a)
  on_a_side zero h o = inl o
  on_a_side (suc zero) h o = inr (inl o)
  on_a_side (suc (suc zero)) h o = inr (inr o)
  on_a_side (suc (suc (suc i))) h o = absurd (omega arith)

  pub in_lies : InOrOn d (spot e) → Lies e a b c
  in_lies (inl s) = inl (on_a_side s.0 s.1 s.2)
  in_lies (inr t) = inr (subst T odd_is (odd_sides.told t))

  pub lies_in : Lies e a b c → InOrOn d (spot e)
  lies_in (inl (inl o)) = inl (0, lit< tt, o)
  lies_in (inl (inr (inl o))) = inl (1, lit< tt, o)
  lies_in (inl (inr (inr o))) = inl (2, lit< tt, o)
  lies_in (inr t) = inr (odd_sides.sure (subst T (sym odd_is) t))

-- ---- the corners in another order: from the next one on, or two of them exchanged
round : (x y z : Bool) → T (z ⊕ (y ⊕ (x ⊕ false))) → T (x ⊕ (z ⊕ (y ⊕ false)))
round true true true t = t
round true true false t = t
round true false true t = t
round true false false t = t
round false true true t = t
round false true false t = t
round false false true t = t
round false false false t = t

pub round_lies : (e a b c : Point) → Lies e a b c → Lies e b c a
round_lies e a b c (inl (inl o)) = inl (inr (inr o))
round_lies e a b c (inl (inr (inl o))) = inl (inl o)
round_lies e a b c (inl (inr (inr o))) = inl (inr (inl o))
round_lies e a b c (inr t) = inr (round (crosses e a b) (crosses e b c) (crosses e c a) t)

exchange : (x y z : Bool) → T (z ⊕ (y ⊕ (x ⊕ false))) → T (y ⊕ (z ⊕ (x ⊕ false)))
exchange true true true t = t
exchange true true false t = t
exchange true false true t = t
exchange true false false t = t
exchange false true true t = t
exchange false true false t = t
exchange false false true t = t
exchange false false false t = t

passes_back : (s t u d : Bool) → passes s t u d ≡ passes t s d u
passes_back true true u d = refl
passes_back true false u d = refl
passes_back false true u d = refl
passes_back false false u d = refl

crosses_back : (e a b : Point) → crosses e a b ≡ crosses e b a
crosses_back e a b = passes_back (higher e a) (higher e b) (left e a b) (left e b a)

pub swap_lies : (e a b c : Point) → Lies e a b c → Lies e b a c
swap_lies e a b c (inl (inl o)) = inl (inl (on_turned o))
swap_lies e a b c (inl (inr (inl o))) = inl (inr (inr (on_turned o)))
swap_lies e a b c (inl (inr (inr o))) = inl (inr (inl (on_turned o)))
swap_lies e a b c (inr t) =
    inr (rw (crosses_back e c b, crosses_back e a c, crosses_back e b a)
    (exchange (crosses e a b) (crosses e b c) (crosses e c a) t))
