-- One side ab and a segment PQ that it does not meet: whether the side passes to the right of P and whether it passes
-- to the right of Q differ just where one of its ends, and not both, lies in the strip to the right of PQ.
--
--            Q . . . . . . . .
--           /    the strip: above P, not above Q, and to the right of PQ
--          P . . . . . . . .
use Rattle.std.specs.Prelude.{◌≡◌, refl, Bool, true, false, ℤ, ◌≤ℤ◌, ◌<ℤ◌}
use Rattle.std.proofs.Common.{sym, ◌∙◌, inl, inr}
use Rattle.std.specs.Int.Signed.{lt_z}
use Rattle.whole.specs.Order.{Nonneg, Positive, positive_nonneg, ≤ℤ_<ℤ_trans, not_less}
use Rattle.outline.specs.Drawing.{Point, Shared, turn_of}
use Rattle.outline.specs.Segments.{turned_second, turn_back}
use Rattle.outline.specs.Passing.{higher, passes, crosses}
use Rattle.outline.specs.Odd.{◌⊕◌}
use Rattle.outline.specs.Tells.{if_yes, if_no}
use Rattle.outline.specs.Tests.{lt_tells}
use Rattle.outline.specs.Xor.{⊕-no, ⊕-eq}
use Rattle.outline.specs.Signs.{is_above, same_above}
use Rattle.outline.specs.Balance.{balanced, balanced_back, low_mid, low_high, mid_mid, mid_high}
use Rattle.outline.specs.Meet.{first, second, third, fourth, meets, meets_back}

-- ---- where the segments do not meet, two of the four turns have one sign. Which two, the heights say: low is not
-- above P, high is above Q, mid is between
module _ (P Q a b : Point) (apart : ¬ Shared P Q a b) where
  same_low_mid : a.y ≤ℤ P.y → P.y <ℤ b.y → b.y ≤ℤ Q.y → is_above (turn_of a b P) ≡ is_above (turn_of Q P b)
  same_low_mid i j k = same_above (turn_back a b P) (turn_back Q P b) f g
    where
      f : Positive (turn_of a b P) → ¬ Nonneg (turn_of P Q b)
      f h3 h2 =
          let w = low_mid (balanced P Q a b) i j k h2 (positive_nonneg h3) in
          apart (meets P Q a b w.0 h2 (positive_nonneg h3) w.1 (third h3))

      g : Nonneg (turn_of b a P) → ¬ Positive (turn_of Q P b)
      g h3 h2 =
          let w = low_mid (balanced_back P Q a b) i j k (positive_nonneg h2) h3 in
          apart (meets_back P Q a b w.0 (positive_nonneg h2) h3 w.1 (second h2))

  same_low_high : a.y ≤ℤ P.y → P.y ≤ℤ Q.y → Q.y <ℤ b.y → is_above (turn_of a b P) ≡ is_above (turn_of a b Q)
  same_low_high i j k = same_above (turn_back a b P) (turn_back a b Q) f g
    where
      f : Positive (turn_of a b P) → ¬ Nonneg (turn_of b a Q)
      f h3 h4 =
          let w = low_high (balanced P Q a b) i j k (positive_nonneg h3) h4 in
          apart (meets P Q a b w.0 w.1 (positive_nonneg h3) h4 (third h3))

      g : Nonneg (turn_of b a P) → ¬ Positive (turn_of a b Q)
      g h3 h4 =
          let w = low_high (balanced_back P Q a b) i j k h3 (positive_nonneg h4) in
          apart (meets_back P Q a b w.0 w.1 h3 (positive_nonneg h4) (fourth h4))

  same_mid_mid : P.y <ℤ a.y → a.y ≤ℤ Q.y → P.y <ℤ b.y → b.y ≤ℤ Q.y →
      is_above (turn_of Q P a) ≡ is_above (turn_of Q P b)
  same_mid_mid i j k l = same_above (turn_back Q P a) (turn_back Q P b) f g
    where
      f : Positive (turn_of Q P a) → ¬ Nonneg (turn_of P Q b)
      f h1 h2 =
          let w = mid_mid (balanced P Q a b) i j k l (positive_nonneg h1) h2 in
          apart (meets P Q a b (positive_nonneg h1) h2 w.0 w.1 (first h1))

      g : Nonneg (turn_of P Q a) → ¬ Positive (turn_of Q P b)
      g h1 h2 =
          let w = mid_mid (balanced_back P Q a b) i j k l h1 (positive_nonneg h2) in
          apart (meets_back P Q a b h1 (positive_nonneg h2) w.0 w.1 (second h2))

  same_mid_high : P.y <ℤ a.y → a.y ≤ℤ Q.y → Q.y <ℤ b.y → is_above (turn_of a b Q) ≡ is_above (turn_of Q P a)
  same_mid_high i j k = same_above (turn_back a b Q) (turn_back Q P a) g f
    where
      f : Nonneg (turn_of b a Q) → ¬ Positive (turn_of Q P a)
      f h4 h1 =
          let w = mid_high (balanced P Q a b) i j k (inl (h1, h4)) in
          apart (meets P Q a b (positive_nonneg h1) w.0 w.1 h4 (first h1))

      g : Positive (turn_of a b Q) → ¬ Nonneg (turn_of P Q a)
      g h4 h1 =
          let w = mid_high (balanced_back P Q a b) i j k (inr (h1, h4)) in
          apart (meets_back P Q a b h1 w.0 w.1 (positive_nonneg h4) (fourth h4))

-- ---- where an end stands, with the truth values "above P" and "above Q"
pub data Place (p q y : ℤ) : Bool → Bool → Type 0 where
  low : y ≤ℤ p → Place p q y false false
  mid : p <ℤ y → y ≤ℤ q → Place p q y true false
  high : q <ℤ y → Place p q y true true

pub place : (p q y : ℤ) → p ≤ℤ q → Place p q y (lt_z p y) (lt_z q y)
place p q y h = go (lt_z p y) (lt_z q y) refl refl
  where
    go : (s t : Bool) → lt_z p y ≡ s → lt_z q y ≡ t → Place p q y s t
    go true true e f = high (if_yes (lt_tells q y) f)
    go true false e f = mid (if_yes (lt_tells p y) e) (not_less (if_no (lt_tells q y) f))
    go false true e f = absurd (if_no (lt_tells p y) e (≤ℤ_<ℤ_trans h (if_yes (lt_tells q y) f)))
    go false false e f = low (not_less (if_no (lt_tells p y) e))

-- ---- in the strip: above P, not above Q, strictly right of PQ
abbrev pub inside : Bool → Bool → Bool → Bool
inside true true r = false
inside true false r = r
inside false true r = false
inside false false r = false

abbrev pub strip : Point → Point → Point → Bool
strip P Q a = inside (higher P a) (higher Q a) (is_above (turn_of Q P a))

module _ (P Q a b : Point) (pq : P.y ≤ℤ Q.y) (apart : ¬ Shared P Q a b) where
  -- the side turned round
  apart_back : ¬ Shared P Q b a
  apart_back s = apart (turned_second s)

  by_place : {pa qa pb qb : Bool} → Place P.y Q.y a.y pa qa → Place P.y Q.y b.y pb qb →
      passes pa pb (is_above (turn_of a b P)) (is_above (turn_of b a P))
      ⊕ passes qa qb (is_above (turn_of a b Q)) (is_above (turn_of b a Q))
      ≡ inside pa qa (is_above (turn_of Q P a)) ⊕ inside pb qb (is_above (turn_of Q P b))
  by_place (low i) (low j) = refl
  by_place (low i) (mid j k) = ⊕-no (is_above (turn_of a b P)) ∙ same_low_mid P Q a b apart i j k
  by_place (low i) (high j) = ⊕-eq (same_low_high P Q a b apart i pq j)
  by_place (mid i j) (low k) =
      ⊕-no (is_above (turn_of b a P)) ∙ same_low_mid P Q b a apart_back k i j ∙ sym (⊕-no (is_above (turn_of Q P a)))
  by_place (mid i j) (mid k l) = sym (⊕-eq (same_mid_mid P Q a b apart i j k l))
  by_place (mid i j) (high k) = same_mid_high P Q a b apart i j k ∙ sym (⊕-no (is_above (turn_of Q P a)))
  by_place (high i) (low j) = ⊕-eq (same_low_high P Q b a apart_back j pq i)
  by_place (high i) (mid j k) = same_mid_high P Q b a apart_back j k i
  by_place (high i) (high j) = refl

  pub side : crosses P a b ⊕ crosses Q a b ≡ strip P Q a ⊕ strip P Q b
  side = by_place (place P.y Q.y a.y pq) (place P.y Q.y b.y pq)
