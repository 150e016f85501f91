-- A side ab and the row half way between the heights h and h + 1, in a drawing 2 D times as large, where the row's
-- height and the place at which the side passes it are whole.
--
--    h + 1  ..........        b
--           ---------------- / ------- the row, at D (2 h + 1)
--    h      ............... a
use Rattle.std.specs.Prelude.{◌≡◌, refl, Bool, true, false, ◌⊎◌, List, [], ◌∷◌, ℤ, pos, ◌+ℤ◌, ◌-ℤ◌, ◌*ℤ◌, ◌≤ℤ◌, ◌<ℤ◌}
use Rattle.std.proofs.Common.{sym, ◌∙◌, ap, ap₂, inl, inr}
use Rattle.std.proofs.lemmas.Bool.{false≢true}
use Rattle.std.specs.Int.Signed.{lt_z}
use Rattle.whole.specs.Ring.{E, v, ◌:+◌, ◌:-◌, ◌:*◌, neg, ring, ring1, by_ring}
use Rattle.whole.specs.Order.{Positive, nonneg_pos, positive_pos, nonneg_mul, positive_add, positive_mul}
use Rattle.whole.specs.Order.{positive_pred, le_sub, sub_lt, lt_sub, ≤ℤ_<ℤ_trans, ≤ℤ_total, <ℤ_le}
use Rattle.outline.specs.Drawing.{Point, turn_of}
use Rattle.outline.specs.Spell.{PointE, A, B, O, I, TurnE}
use Rattle.outline.specs.Odd.{◌⊕◌}
use Rattle.outline.specs.Parity.{pt, out}
use Rattle.outline.specs.Passing.{higher, passes, crosses}
use Rattle.outline.specs.Signs.{is_above, above_scale, lt_above}
use Rattle.outline.specs.Compare.{plus_off, less, not_less, is_less, is_not_less}
use Rattle.outline.specs.Inner.{Inner}
use Rattle.outline.specs.Rising.{Rises, rising, falling, rises_once, none_back}
use Rattle.outline.specs.RowStep.{both}
use Rattle.outline.specs.CommonHeight.{Divides, divided}

abbrev pub scale : ℤ → ℤ
scale D = pos 2 *ℤ D

-- twice the row's height, and in the large drawing
abbrev twice : ℤ → ℤ
twice h = pos 2 *ℤ h +ℤ pos 1

abbrev pub row_height : ℤ → ℤ → ℤ
row_height D h = D *ℤ twice h

-- where ab passes it, e times its height being D
abbrev pub place : ℤ → ℤ → Point → Point → ℤ → ℤ
place D e a b h = scale D *ℤ a.x +ℤ (twice h -ℤ pos 2 *ℤ a.y) *ℤ (e *ℤ (b.x -ℤ a.x))

-- ---- numbers above the row and below it
over : (h z : ℤ) → h <ℤ z → Positive (pos 2 *ℤ z -ℤ twice h)
over h z k =
    by_ring (h ∷ z ∷ []) Positive (I :+ (I :+ I) :* (v 1 :- v 0 :- I)) ((I :+ I) :* v 1 :- ((I :+ I) :* v 0 :+ I)) refl
    (positive_add (positive_pos 0) (nonneg_mul (nonneg_pos 2) (positive_pred (lt_sub k))))

under : (h z : ℤ) → z ≤ℤ h → Positive (twice h -ℤ pos 2 *ℤ z)
under h z k =
    by_ring (h ∷ z ∷ []) Positive (I :+ (I :+ I) :* (v 0 :- v 1)) ((I :+ I) :* v 0 :+ I :- (I :+ I) :* v 1) refl
    (positive_add (positive_pos 0) (nonneg_mul (nonneg_pos 2) (le_sub k)))

-- higher than the row is higher than h
higher_row : (D h X : ℤ) (z : Point) → Positive D → higher (pt X (row_height D h)) (out (scale D) z) ≡ lt_z h z.y
higher_row D h X z D+ = go (≤ℤ_total z.y h)
  where
    go : (z.y ≤ℤ h) ⊎ (h <ℤ z.y) → higher (pt X (row_height D h)) (out (scale D) z) ≡ lt_z h z.y
    go (inl k) =
        not_less (row_height D h) (scale D *ℤ z.y)
        (<ℤ_le (sub_lt (by_ring (D ∷ h ∷ z.y ∷ []) Positive (v 0 :* ((I :+ I) :* v 1 :+ I :- (I :+ I) :* v 2))
        (v 0 :* ((I :+ I) :* v 1 :+ I) :- (I :+ I) :* v 0 :* v 2) refl (positive_mul D+ (under h z.y k)))))
        ∙ sym (not_less h z.y k)
    go (inr k) =
        less (row_height D h) (scale D *ℤ z.y)
        (sub_lt (by_ring (D ∷ h ∷ z.y ∷ []) Positive (v 0 :* ((I :+ I) :* v 2 :- ((I :+ I) :* v 1 :+ I)))
        ((I :+ I) :* v 0 :* v 2 :- v 0 :* ((I :+ I) :* v 1 :+ I)) refl (positive_mul D+ (over h z.y k))))
        ∙ sym (less h z.y k)

-- ---- a b are 0 to 3, D e h X are 4 to 7
abbrev scale_e : E
scale_e = (I :+ I) :* v 4

abbrev twice_e : E
twice_e = (I :+ I) :* v 6 :+ I

abbrev grow_e : PointE → PointE
grow_e z = record { x = scale_e :* z.x; y = scale_e :* z.y }

abbrev place_e : E
place_e = scale_e :* A.x :+ (twice_e :- (I :+ I) :* A.y) :* (v 5 :* (B.x :- A.x))

-- how far the row is above a, times how far b is right of a: what the equation e (b - a) = D is taken times
abbrev share_e : E
share_e = (twice_e :- (I :+ I) :* A.y) :* (B.x :- A.x)

module _ (D e : ℤ) (a b : Point) (h : ℤ) (D+ : Positive D) (fit : Divides e (b.y -ℤ a.y) D) where
  abbrev ρ : ℤ → List ℤ
  ρ X = a.x ∷ a.y ∷ b.x ∷ b.y ∷ D ∷ e ∷ h ∷ X ∷ []

  abbrev row_at : ℤ → Point
  row_at X = pt X (row_height D h)

  scale+ : Positive (pos 2 *ℤ D)
  scale+ = positive_mul (positive_pos 1) D+

  -- the side goes up through the row, or down
  ups : lt_z h a.y ≡ false → lt_z h b.y ≡ true → Positive (b.y -ℤ a.y)
  ups low high = lt_sub (≤ℤ_<ℤ_trans (is_not_less h a.y low) (is_less h b.y high))

  downs : lt_z h a.y ≡ true → lt_z h b.y ≡ false → Positive (a.y -ℤ b.y)
  downs high low = lt_sub (≤ℤ_<ℤ_trans (is_not_less h b.y low) (is_less h a.y high))

  fit_up : Positive (b.y -ℤ a.y) → e *ℤ (b.y -ℤ a.y) ≡ D
  fit_up k = divided e (b.y -ℤ a.y) D fit (plus_off k)

  fit_down : Positive (a.y -ℤ b.y) → e *ℤ (b.y -ℤ a.y) ≡ D
  fit_down k = divided e (b.y -ℤ a.y) D fit (λ z. plus_off k (none_back a.y b.y z))

  -- left of the side is left of its place
  up_turn : (X : ℤ) → Positive (b.y -ℤ a.y) →
      is_above (turn_of (out (scale D) a) (out (scale D) b) (row_at X)) ≡ lt_z X (place D e a b h)
  up_turn X k =
      ap is_above (ring1 (ρ X) (TurnE (grow_e A) (grow_e B) (record { x = v 7; y = v 4 :* twice_e }))
      (scale_e :* (B.y :- A.y) :* (place_e :- v 7)) (neg (scale_e :* share_e)) (v 5 :* (B.y :- A.y)) (v 4)
      (fit_up k) refl)
      ∙ above_scale (scale D *ℤ (b.y -ℤ a.y)) (place D e a b h -ℤ X) (positive_mul scale+ k)
      ∙ sym (lt_above X (place D e a b h))

  down_turn : (X : ℤ) → Positive (a.y -ℤ b.y) →
      is_above (turn_of (out (scale D) b) (out (scale D) a) (row_at X)) ≡ lt_z X (place D e a b h)
  down_turn X k =
      ap is_above (ring1 (ρ X) (TurnE (grow_e B) (grow_e A) (record { x = v 7; y = v 4 :* twice_e }))
      (scale_e :* (A.y :- B.y) :* (place_e :- v 7)) (scale_e :* share_e) (v 5 :* (B.y :- A.y)) (v 4) (fit_down k) refl)
      ∙ above_scale (scale D *ℤ (a.y -ℤ b.y)) (place D e a b h -ℤ X) (positive_mul scale+ k)
      ∙ sym (lt_above X (place D e a b h))

  -- ---- the side passes right of X where it goes through the row, at a place right of X
  pub crosses_row : (X : ℤ) →
      crosses (pt X (row_height D h)) (out (scale D) a) (out (scale D) b) ≡
      both (lt_z h a.y ⊕ lt_z h b.y) (lt_z X (place D e a b h))
  crosses_row X =
      ap₂ (λ s t. passes s t up down) (higher_row D h X a D+) (higher_row D h X b D+)
      ∙ go (lt_z h a.y) (lt_z h b.y) refl refl
    where
      up : Bool
      up = is_above (turn_of (out (scale D) a) (out (scale D) b) (row_at X))

      down : Bool
      down = is_above (turn_of (out (scale D) b) (out (scale D) a) (row_at X))

      go : (s t : Bool) → lt_z h a.y ≡ s → lt_z h b.y ≡ t →
          passes s t up down ≡ both (s ⊕ t) (lt_z X (place D e a b h))
      go true true p q = refl
      go true false p q = down_turn X (downs p q)
      go false true p q = up_turn X (ups p q)
      go false false p q = refl

  -- ---- the place is on the side, strictly between its ends
  pub inner_row : lt_z h a.y ⊕ lt_z h b.y ≡ true →
      Inner (pt (place D e a b h) (row_height D h)) (out (scale D) a) (out (scale D) b)
  inner_row through = go (lt_z h a.y) (lt_z h b.y) refl refl through
    where
      -- the ends from the row: b above it, a below it
      above_e : E
      above_e = (I :+ I) :* B.y :- twice_e

      below_e : E
      below_e = twice_e :- (I :+ I) :* A.y

      go : (s t : Bool) → lt_z h a.y ≡ s → lt_z h b.y ≡ t → s ⊕ t ≡ true →
          Inner (row_at (place D e a b h)) (out (scale D) a) (out (scale D) b)
      go true true p q f = absurd (false≢true f)
      go false false p q f = absurd (false≢true f)
      go false true p q f = record {
        k = pos 2 *ℤ b.y -ℤ twice h;
        m = twice h -ℤ pos 2 *ℤ a.y;
        k+ = over h b.y (is_less h b.y q);
        m+ = under h a.y (is_not_less h a.y p);
        mean_x = ring1 (ρ (pos 0)) (above_e :* (scale_e :* A.x :- place_e) :+ below_e :* (scale_e :* B.x :- place_e)) O
            (neg ((I :+ I) :* share_e)) (v 5 :* (B.y :- A.y)) (v 4) (fit_up (ups p q)) refl;
        mean_y = ring (ρ (pos 0))
            (above_e :* (scale_e :* A.y :- v 4 :* twice_e) :+ below_e :* (scale_e :* B.y :- v 4 :* twice_e)) O refl;
      }
      go true false p q f = record {
        k = twice h -ℤ pos 2 *ℤ b.y;
        m = pos 2 *ℤ a.y -ℤ twice h;
        k+ = under h b.y (is_not_less h b.y q);
        m+ = over h a.y (is_less h a.y p);
        mean_x = ring1 (ρ (pos 0))
            ((twice_e :- (I :+ I) :* B.y) :* (scale_e :* A.x :- place_e) :+
            ((I :+ I) :* A.y :- twice_e) :* (scale_e :* B.x :- place_e)) O
            ((I :+ I) :* share_e) (v 5 :* (B.y :- A.y)) (v 4) (fit_down (downs p q)) refl;
        mean_y = ring (ρ (pos 0))
            ((twice_e :- (I :+ I) :* B.y) :* (scale_e :* A.y :- v 4 :* twice_e) :+
            ((I :+ I) :* A.y :- twice_e) :* (scale_e :* B.y :- v 4 :* twice_e)) O refl;
      }

  -- ---- it rises where its second end is above the row
  pub rises_row : lt_z h a.y ⊕ lt_z h b.y ≡ true → {r : Bool} → Rises a b r → r ≡ lt_z h b.y
  rises_row through {r} d = go (lt_z h a.y) (lt_z h b.y) refl refl through
    where
      go : (s t : Bool) → lt_z h a.y ≡ s → lt_z h b.y ≡ t → s ⊕ t ≡ true → r ≡ t
      go true true p q f = absurd (false≢true f)
      go false false p q f = absurd (false≢true f)
      go false true p q f = rises_once a b d (rising (ups p q))
      go true false p q f = rises_once a b d (falling (downs p q))
