-- Whether a point z lies left of the line from a to b, by where a and b lie against z in x and in y: Turn(a,b,z) is a
-- difference of two products of differences from z. And a point that is not on the segment from a to b, though a and b
-- lie on different sides of it in x or in y, is off the line.
use Rattle.std.specs.Prelude.{◌≡◌, refl, Bool, true, false, not, List, [], ◌∷◌, T, ℤ, pos, neg_ℤ, ◌-ℤ◌, ◌*ℤ◌, ◌≤ℤ◌, ◌<ℤ◌}
use Rattle.std.proofs.Common.{sym, ap₂, subst}
use Rattle.std.specs.Int.Signed.{lt_z, lt_z_yes, lt_z_no}
use Rattle.whole.specs.Ring.{E, v, con, ◌:+◌, ◌:-◌, ◌:*◌, neg, ring, ring1, by_ring}
use Rattle.whole.specs.Order.{Nonneg, Positive, nonneg_add, nonneg_mul, positive_nonneg, positive_not, le_sub, sub_le}
use Rattle.whole.specs.Order.{lt_sub, ≤ℤ_<ℤ_trans, Sign, plus, nought, minus, sign}
use Rattle.outline.specs.Drawing.{Point, turn_of}
use Rattle.outline.specs.Placed.{On, on_of, on_turn}
use Rattle.outline.specs.Signs.{is_above, above_yes, above_no}
use Rattle.outline.specs.Odd.{◌⊕◌}

-- ---- a coordinate y against p, and the signs of products of two differences
pub data Compared (p y : ℤ) : Bool → Type 0 where
  more : p <ℤ y → Compared p y true
  upto : y ≤ℤ p → Compared p y false

pub compared : (p y : ℤ) → Compared p y (lt_z p y)
compared p y = go (lt_z p y) refl
  where
    go : (b : Bool) → lt_z p y ≡ b → Compared p y b
    go true e = more (lt_z_yes (subst T (sym e) tt))
    go false e = upto (lt_z_no (subst (λ t. T (not t)) (sym e) tt))

module _ {p y q w : ℤ} where
  pub alike : {s : Bool} → Compared p y s → Compared q w s → Nonneg ((y -ℤ p) *ℤ (w -ℤ q))
  alike (more h) (more k) = nonneg_mul (positive_nonneg (lt_sub h)) (positive_nonneg (lt_sub k))
  alike (upto h) (upto k) =
      by_ring (p ∷ y ∷ q ∷ w ∷ []) Nonneg ((v 0 :- v 1) :* (v 2 :- v 3)) ((v 1 :- v 0) :* (v 3 :- v 2)) refl
      (nonneg_mul (le_sub h) (le_sub k))

  pub unlike : {s : Bool} → Compared p y s → Compared q w (not s) → Nonneg (neg_ℤ ((y -ℤ p) *ℤ (w -ℤ q)))
  unlike (more h) (upto k) =
      by_ring (p ∷ y ∷ q ∷ w ∷ []) Nonneg ((v 1 :- v 0) :* (v 2 :- v 3)) (neg ((v 1 :- v 0) :* (v 3 :- v 2))) refl
      (nonneg_mul (positive_nonneg (lt_sub h)) (le_sub k))
  unlike (upto h) (more k) =
      by_ring (p ∷ y ∷ q ∷ w ∷ []) Nonneg ((v 0 :- v 1) :* (v 3 :- v 2)) (neg ((v 1 :- v 0) :* (v 3 :- v 2))) refl
      (nonneg_mul (le_sub h) (positive_nonneg (lt_sub k)))

-- ---- whether z lies left of the line from a to b, by the products of the differences from z
-- z a b are 0 to 5
abbrev pub places : Point → Point → Point → List ℤ
places z a b = z.x ∷ z.y ∷ a.x ∷ a.y ∷ b.x ∷ b.y ∷ []

abbrev pub turn : E → E → E → E → E → E → E
turn ax ay bx by cx cy = (bx :- ax) :* (cy :- ay) :- (by :- ay) :* (cx :- ax)

abbrev pub turn_of_lem : E
turn_of_lem = turn (v 2) (v 3) (v 4) (v 5) (v 0) (v 1)

module _ (z a b : Point) where
  pub not_left : Nonneg (neg_ℤ ((a.x -ℤ z.x) *ℤ (b.y -ℤ z.y))) → Nonneg ((a.y -ℤ z.y) *ℤ (b.x -ℤ z.x)) →
      is_above (turn_of a b z) ≡ false
  not_left h k =
      above_no (turn_of a b z)
      (by_ring (places z a b) Nonneg (neg ((v 2 :- v 0) :* (v 5 :- v 1)) :+ (v 3 :- v 1) :* (v 4 :- v 0))
      (neg turn_of_lem)
      refl (nonneg_add h k))

  pub left : Nonneg ((a.x -ℤ z.x) *ℤ (b.y -ℤ z.y)) → Nonneg (neg_ℤ ((a.y -ℤ z.y) *ℤ (b.x -ℤ z.x))) →
      ¬ (turn_of a b z ≡ pos 0) →
      is_above (turn_of a b z) ≡ true
  left h k some = go (sign (turn_of a b z))
    where
      go : Sign (turn_of a b z) → is_above (turn_of a b z) ≡ true
      go (plus t) = above_yes t
      go (nought e) = absurd (some e)
      go (minus t) =
          positive_not t
          (by_ring (places z a b) Nonneg ((v 2 :- v 0) :* (v 5 :- v 1) :+ neg ((v 3 :- v 1) :* (v 4 :- v 0)))
          (neg (neg turn_of_lem)) refl (nonneg_add h k))

  -- on the one hand or on the other
  pub either_hand : ¬ (turn_of a b z ≡ pos 0) → is_above (turn_of b a z) ⊕ is_above (turn_of a b z) ≡ true
  either_hand some = go (sign (turn_of a b z))
    where
      other : E
      other = turn (v 4) (v 5) (v 2) (v 3) (v 0) (v 1)

      go : Sign (turn_of a b z) → is_above (turn_of b a z) ⊕ is_above (turn_of a b z) ≡ true
      go (plus h) =
          ap₂ ◌⊕◌ (above_no (turn_of b a z) (by_ring (places z a b) Nonneg turn_of_lem (neg other) refl
          (positive_nonneg h)))
          (above_yes h)
      go (nought e) = absurd (some e)
      go (minus h) =
          ap₂ ◌⊕◌ (above_yes (by_ring (places z a b) Positive (neg turn_of_lem) other refl h))
          (above_no (turn_of a b z) (positive_nonneg h))

  -- ---- z on the line through a and b, and between them in x or in y: it is on the segment
  on_by_x : a.x ≤ℤ z.x → z.x <ℤ b.x → turn_of a b z ≡ pos 0 → On z a b
  on_by_x h k e = on_of (record {
    m = z.x -ℤ a.x;
    k = b.x -ℤ a.x;
    k+ = lt_sub (≤ℤ_<ℤ_trans h k);
    m0 = le_sub h;
    m1 = sub_le
        (by_ring (places z a b) Nonneg (v 4 :- v 0) (v 4 :- v 2 :- (v 0 :- v 2)) refl (positive_nonneg (lt_sub k)));
    fx = ring (places z a b) ((v 4 :- v 2) :* (v 0 :- v 2)) ((v 0 :- v 2) :* (v 4 :- v 2)) refl;
    fy = ring1 (places z a b) ((v 4 :- v 2) :* (v 1 :- v 3)) ((v 0 :- v 2) :* (v 5 :- v 3)) (con (pos 1)) turn_of_lem
        (con (pos 0)) e refl;
  })

  on_by_y : a.y ≤ℤ z.y → z.y <ℤ b.y → turn_of a b z ≡ pos 0 → On z a b
  on_by_y h k e = on_of (record {
    m = z.y -ℤ a.y;
    k = b.y -ℤ a.y;
    k+ = lt_sub (≤ℤ_<ℤ_trans h k);
    m0 = le_sub h;
    m1 = sub_le
        (by_ring (places z a b) Nonneg (v 5 :- v 1) (v 5 :- v 3 :- (v 1 :- v 3)) refl (positive_nonneg (lt_sub k)));
    fx = ring1 (places z a b) ((v 5 :- v 3) :* (v 0 :- v 2)) ((v 1 :- v 3) :* (v 4 :- v 2))
        (neg (con (pos 1))) turn_of_lem
        (con (pos 0)) e refl;
    fy = ring (places z a b) ((v 5 :- v 3) :* (v 1 :- v 3)) ((v 1 :- v 3) :* (v 5 :- v 3)) refl;
  })

-- so where it is not on it, it is off the line
module _ (z a b : Point) (off : ¬ On z a b) where
  turn_back : turn_of a b z ≡ pos 0 → turn_of b a z ≡ pos 0
  turn_back e =
      ring1 (places z a b) (turn (v 4) (v 5) (v 2) (v 3) (v 0) (v 1)) (con (pos 0)) (neg (con (pos 1))) turn_of_lem
      (con (pos 0)) e refl

  pub off_by_x : {s : Bool} → Compared z.x a.x s → Compared z.x b.x (not s) → ¬ (turn_of a b z ≡ pos 0)
  off_by_x (upto h) (more k) e = off (on_by_x z a b h k e)
  off_by_x (more h) (upto k) e = off (on_turn (on_by_x z b a k h (turn_back e)))

  pub off_by_y : {s : Bool} → Compared z.y a.y s → Compared z.y b.y (not s) → ¬ (turn_of a b z ≡ pos 0)
  off_by_y (upto h) (more k) e = off (on_by_y z a b h k e)
  off_by_y (more h) (upto k) e = off (on_turn (on_by_y z b a k h (turn_back e)))
