-- A side ab that crosses the segment IJ: its ends lie strictly on the two sides of the line IJ, so the shared point is
-- an inner one of the side. It may be an end of IJ.
use Rattle.std.specs.Prelude.{◌≡◌, refl, ◌⊎◌, [], ◌∷◌, ℤ, neg_ℤ, ◌+ℤ◌, ◌-ℤ◌, ◌*ℤ◌}
use Rattle.std.proofs.Common.{sym, subst, inl, inr}
use Rattle.whole.specs.Ring.{v, ◌:-◌, ◌:*◌, ring1}
use Rattle.whole.specs.Order.{Positive, positive_nonneg, positive_cancel, zero_cancel, diff_zero}
use Rattle.outline.specs.Drawing.{Point, Shared, turn_of}
use Rattle.outline.specs.Spell.{O, I, At}
use Rattle.outline.specs.Segments.{turn_back}
use Rattle.outline.specs.Parity.{out}
use Rattle.outline.specs.Scale.{turn_scale}

abbrev pub Opposite : ℤ → ℤ → Type 0
Opposite s t = (Positive s × Positive (neg_ℤ t)) ⊎ (Positive (neg_ℤ s) × Positive t)

pub record Crosses (I J a b : Point) : Type 0 where
  pub ends : Opposite (turn_of I J a) (turn_of I J b)
  pub meets : Shared I J a b

-- ---- what crosses in a drawing k times as large crosses
module _ (k : ℤ) (h : Positive k) where
  turn_smaller : (a b z : Point) → Positive (turn_of (out k a) (out k b) (out k z)) → Positive (turn_of a b z)
  turn_smaller a b z p =
      positive_cancel (positive_nonneg h) (positive_cancel (positive_nonneg h) (subst Positive (turn_scale k a b z) p))

  -- the right side of ab is the left side of ba
  right_smaller : (a b z : Point) → Positive (neg_ℤ (turn_of (out k a) (out k b) (out k z))) →
      Positive (neg_ℤ (turn_of a b z))
  right_smaller a b z p =
      subst Positive (sym (turn_back a b z))
      (turn_smaller b a z (subst Positive (turn_back (out k a) (out k b) (out k z)) p))

  -- k i j a b p q r are 0 to 7
  equation : (i j a b p q r : ℤ) →
      r *ℤ (k *ℤ i) +ℤ p *ℤ (k *ℤ j -ℤ k *ℤ i) ≡ r *ℤ (k *ℤ a) +ℤ q *ℤ (k *ℤ b -ℤ k *ℤ a) →
      r *ℤ i +ℤ p *ℤ (j -ℤ i) ≡ r *ℤ a +ℤ q *ℤ (b -ℤ a)
  equation i j a b p q r e =
      diff_zero (r *ℤ i +ℤ p *ℤ (j -ℤ i)) (r *ℤ a +ℤ q *ℤ (b -ℤ a)) (zero_cancel h
      (ring1 (k ∷ i ∷ j ∷ a ∷ b ∷ p ∷ q ∷ r ∷ [])
      (v 0 :* (At (v 7) (v 1) (v 5) (v 2) :- At (v 7) (v 3) (v 6) (v 4))) O I
      (At (v 7) (v 0 :* v 1) (v 5) (v 0 :* v 2)) (At (v 7) (v 0 :* v 3) (v 6) (v 0 :* v 4)) e refl))

  module _ (I J a b : Point) where
    shared_smaller : Shared (out k I) (out k J) (out k a) (out k b) → Shared I J a b
    shared_smaller s =
        record {
          p = s.p;
          q = s.q;
          r = s.r;
          r_above = s.r_above;
          p_from = s.p_from;
          p_to = s.p_to;
          q_from = s.q_from;
          q_to = s.q_to;
          same_x = equation I.x J.x a.x b.x s.p s.q s.r s.same_x;
          same_y = equation I.y J.y a.y b.y s.p s.q s.r s.same_y;
        }

    pub crosses_back : Crosses (out k I) (out k J) (out k a) (out k b) → Crosses I J a b
    crosses_back x = record { ends = go x.ends; meets = shared_smaller x.meets }
      where
        go : Opposite (turn_of (out k I) (out k J) (out k a)) (turn_of (out k I) (out k J) (out k b)) →
            Opposite (turn_of I J a) (turn_of I J b)
        go (inl p) = inl (turn_smaller I J a p.0, right_smaller I J b p.1)
        go (inr p) = inr (right_smaller I J a p.0, turn_smaller I J b p.1)
