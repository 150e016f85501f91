-- A point k of the segment ij that is not i: a segment from i that meets kj goes along ij.
--
--      i -------- k -------- j
--         .  .  .  .  s           i, k, j and s are in one line
use Rattle.std.specs.Prelude.{◌≡◌, refl, List, [], ◌∷◌, ℤ, pos, ◌*ℤ◌}
use Rattle.std.proofs.Common.{sym, ◌∙◌, ap, subst}
use Rattle.std.proofs.Math.IntN.{*ℤ-zero}
use Rattle.std.specs.Int.Signed.{<ℤ-≤ℤ_trans}
use Rattle.whole.specs.Ring.{v, ◌:+◌, ◌:-◌, ◌:*◌, neg, ring, ring1, ring2, by_ring}
use Rattle.whole.specs.Order.{Positive, nonneg_add, nonneg_mul, positive_add, positive_pred, zero_cancel, le_sub}
use Rattle.whole.specs.Order.{≤ℤ_strict}
use Rattle.outline.specs.Drawing.{Point, Shared, turn_of}
use Rattle.outline.specs.Spell.{A, B, C, D, P, Q, R, O, I, env, TurnE, DotE, ab_x, ab_y, cd_x, cd_y}
use Rattle.outline.specs.Placed.{On, Frac, frac_of, on_dot}
use Rattle.outline.specs.Along.{len2, along, along_high, apart_length}
use Rattle.outline.specs.Compare.{plus_off}

-- i, s, k and j are A to D
module _ (i k j s : Point) (o : On k i j) (ik : ¬ (i ≡ k)) (t : Shared i s k j) where
  abbrev ρ : List ℤ
  ρ = env i s k j t.p t.q t.r

  -- k is past i, and so is j
  past_i : Positive (along i j k)
  past_i =
      by_ring ρ Positive (DotE A C C :+ (O :- DotE C A D)) (DotE A C D) refl
      (positive_add (apart_length i k ik) (le_sub (on_dot o)))

  whole : Positive (len2 i j)
  whole = <ℤ-≤ℤ_trans past_i (along_high k i j o)

  -- so the shared point is not i
  some : Positive (t.p *ℤ along i j s)
  some =
      subst Positive
      (ring2 ρ (R :+ ((R :- Q) :* (DotE A C D :- I) :+ Q :* (DotE A D D :- I))) (P :* DotE A B D)
      (neg (D.x :- A.x)) ab_x cd_x (neg (D.y :- A.y)) ab_y cd_y t.same_x t.same_y refl)
      (positive_add t.r_above (nonneg_add (nonneg_mul (le_sub t.q_to) (positive_pred past_i))
      (nonneg_mul t.q_from (positive_pred whole))))

  p_some : Positive t.p
  p_some =
      ≤ℤ_strict t.p_from
      (λ e. plus_off some
      (ap (λ z. z *ℤ along i j s) (sym e) ∙ ring (along i j s ∷ []) (O :* v 0) O refl))

  pub far_straight : turn_of i j s ≡ pos 0
  far_straight =
      zero_cancel p_some
      (ring2 ρ (P :* TurnE A D B) ((R :- Q) :* TurnE A D C) (D.x :- A.x) ab_y cd_y (neg (D.y :- A.y)) ab_x cd_x
      t.same_y t.same_x refl
      ∙ ring1 ρ ((R :- Q) :* TurnE A D C) O (R :- Q) (TurnE A D C) O o.line refl)

  pub near_straight : turn_of i k s ≡ pos 0
  near_straight =
      zero_cancel f.k+
      (ring2 (env i s k j f.m f.k (pos 0)) (Q :* TurnE A C B) (P :* TurnE A D B)
      (B.y :- A.y) (Q :* (C.x :- A.x)) (P :* (D.x :- A.x))
      (neg (B.x :- A.x)) (Q :* (C.y :- A.y)) (P :* (D.y :- A.y)) f.fx f.fy refl
      ∙ ap (λ z. f.m *ℤ z) far_straight ∙ *ℤ-zero f.m)
    where
      f : Frac k i j
      f = frac_of k i j o
