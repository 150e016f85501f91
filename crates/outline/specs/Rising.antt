-- The direction of a side ab as a truth value: it rises, or, where it is level, it goes to the left.
use Rattle.std.specs.Prelude.{◌≡◌, refl, Bool, true, false, not, [], ◌∷◌, ℤ, pos, neg_ℤ, ◌-ℤ◌, ◌*ℤ◌}
use Rattle.std.proofs.Common.{sym, ◌∙◌, ap, subst}
use Rattle.std.proofs.Math.IntN.{*ℤ-zero}
use Rattle.whole.specs.Ring.{v, ◌:-◌, ◌:*◌, neg, ring1, ring2, by_ring}
use Rattle.whole.specs.Order.{Positive, Sign, plus, nought, minus, sign, positive_nonneg, positive_mul}
use Rattle.whole.specs.Order.{positive_cancel, zero_cancel}
use Rattle.outline.specs.Drawing.{Point}
use Rattle.outline.specs.Segments.{Dot}
use Rattle.outline.specs.Spell.{A, B, O, I, env4, DotE}
use Rattle.outline.specs.Compare.{plus_off, both_signs}

pub data Rises (a b : Point) : Bool → Type 0 where
  rising : Positive (b.y -ℤ a.y) → Rises a b true
  falling : Positive (a.y -ℤ b.y) → Rises a b false
  leftward : b.y -ℤ a.y ≡ pos 0 → Positive (a.x -ℤ b.x) → Rises a b true
  rightward : b.y -ℤ a.y ≡ pos 0 → Positive (b.x -ℤ a.x) → Rises a b false

rise_of : {s t : ℤ} → Sign s → Sign t → Bool
rise_of (plus h) k = true
rise_of (minus h) k = false
rise_of (nought h) (plus k) = false
rise_of (nought h) (minus k) = true
rise_of (nought h) (nought k) = false

pub rise : Point → Point → Bool
rise a b = rise_of (sign (b.y -ℤ a.y)) (sign (b.x -ℤ a.x))

-- a difference the other way
less_back : (s t : ℤ) → Positive (neg_ℤ (t -ℤ s)) → Positive (s -ℤ t)
less_back s t h = by_ring (s ∷ t ∷ []) Positive (neg (v 1 :- v 0)) (v 0 :- v 1) refl h

more_back : (s t : ℤ) → Positive (t -ℤ s) → Positive (neg_ℤ (s -ℤ t))
more_back s t h = by_ring (s ∷ t ∷ []) Positive (v 1 :- v 0) (neg (v 0 :- v 1)) refl h

pub none_back : (s t : ℤ) → t -ℤ s ≡ pos 0 → s -ℤ t ≡ pos 0
none_back s t e = ring1 (s ∷ t ∷ []) (v 0 :- v 1) O (neg I) (v 1 :- v 0) O e refl

pub rises : (a b : Point) → Positive (Dot a b b) → Rises a b (rise a b)
unfolding rise rise_of
rises a b long = go (sign (b.y -ℤ a.y)) (sign (b.x -ℤ a.x))
  where
    go : (s : Sign (b.y -ℤ a.y)) (t : Sign (b.x -ℤ a.x)) → Rises a b (rise_of s t)
    go (plus h) k = rising h
    go (minus h) k = falling (less_back a.y b.y h)
    go (nought h) (plus k) = rightward h k
    go (nought h) (minus k) = leftward h (less_back a.x b.x k)
    go (nought h) (nought k) =
        absurd (plus_off long
        (ring2 (env4 a b b b) (DotE A B B) O (B.x :- A.x) (B.x :- A.x) O (B.y :- A.y) (B.y :- A.y) O k h refl))

-- ---- turned round
pub rises_turned : {a b : Point} {e : Bool} → Rises a b e → Rises b a (not e)
rises_turned (rising h) = falling h
rises_turned (falling h) = rising h
rises_turned {a} {b} (leftward e h) = rightward (none_back a.y b.y e) h
rises_turned {a} {b} (rightward e h) = leftward (none_back a.y b.y e) h

-- ---- two sides with the same direction: k times the one's step is m times the other's
module _ (a b c d : Point) (k m : ℤ) (k+ : Positive k) (m+ : Positive m)
    (same_x : k *ℤ (b.x -ℤ a.x) ≡ m *ℤ (d.x -ℤ c.x)) (same_y : k *ℤ (b.y -ℤ a.y) ≡ m *ℤ (d.y -ℤ c.y)) where
  forth : {s t : ℤ} → k *ℤ s ≡ m *ℤ t → Positive s → Positive t
  forth e h = positive_cancel (positive_nonneg m+) (subst Positive e (positive_mul k+ h))

  back : (a b c d : ℤ) → k *ℤ (b -ℤ a) ≡ m *ℤ (d -ℤ c) → Positive (a -ℤ b) → Positive (c -ℤ d)
  back a b c d e h =
      forth (ring1 (k ∷ m ∷ a ∷ b ∷ c ∷ d ∷ []) (v 0 :* (v 2 :- v 3)) (v 1 :* (v 4 :- v 5))
      (neg I) (v 0 :* (v 3 :- v 2)) (v 1 :* (v 5 :- v 4)) e refl) h

  level : b.y -ℤ a.y ≡ pos 0 → d.y -ℤ c.y ≡ pos 0
  level e = zero_cancel m+ (sym same_y ∙ ap (λ z. k *ℤ z) e ∙ *ℤ-zero k)

  pub rises_like : {e : Bool} → Rises a b e → Rises c d e
  rises_like (rising h) = rising (forth same_y h)
  rises_like (falling h) = falling (back a.y b.y c.y d.y same_y h)
  rises_like (leftward e h) = leftward (level e) (back a.x b.x c.x d.x same_x h)
  rises_like (rightward e h) = rightward (level e) (forth same_x h)

-- ---- one direction
clash : {X : Type 0} (s t : ℤ) → Positive (s -ℤ t) → Positive (t -ℤ s) → X
clash s t h k = both_signs h (more_back s t k)

pub rises_once : (a b : Point) {e f : Bool} → Rises a b e → Rises a b f → e ≡ f
rises_once a b (rising h) (rising k) = refl
rises_once a b (rising h) (falling k) = clash b.y a.y h k
rises_once a b (rising h) (leftward k l) = refl
rises_once a b (rising h) (rightward k l) = absurd (plus_off h k)
rises_once a b (falling h) (rising k) = clash a.y b.y h k
rises_once a b (falling h) (falling k) = refl
rises_once a b (falling h) (leftward k l) = absurd (plus_off h (none_back a.y b.y k))
rises_once a b (falling h) (rightward k l) = refl
rises_once a b (leftward e h) (rising k) = refl
rises_once a b (leftward e h) (falling k) = absurd (plus_off k (none_back a.y b.y e))
rises_once a b (leftward e h) (leftward k l) = refl
rises_once a b (leftward e h) (rightward k l) = clash a.x b.x h l
rises_once a b (rightward e h) (rising k) = absurd (plus_off k e)
rises_once a b (rightward e h) (falling k) = refl
rises_once a b (rightward e h) (leftward k l) = clash b.x a.x h l
rises_once a b (rightward e h) (rightward k l) = refl
