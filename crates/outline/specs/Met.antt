-- Two points u and w of ab strictly between its ends, in a drawing K times as large: a segment that meets uw there
-- meets ab strictly between its ends.
--
--    a ---- u ----+---- w ---- b
use Rattle.std.specs.Prelude.{◌≡◌, refl, List, [], ◌∷◌, ℤ, pos, ◌+ℤ◌, ◌-ℤ◌, ◌*ℤ◌}
use Rattle.std.proofs.Common.{◌∙◌}
use Rattle.whole.specs.Ring.{E, v, ◌:+◌, ◌:-◌, ◌:*◌, ring1, ring2, by_ring}
use Rattle.whole.specs.Order.{Nonneg, Positive, nonneg_add, nonneg_mul, positive_nonneg, positive_add, positive_mul}
use Rattle.whole.specs.Order.{positive_pred, zero_cancel, le_sub, sub_le, diff_zero}
use Rattle.outline.specs.Drawing.{Point, Shared}
use Rattle.outline.specs.Spell.{O, I, At}
use Rattle.outline.specs.Parity.{out}
use Rattle.outline.specs.Inner.{Inner, weight}

pub record Met (a b e f : Point) : Type 0 where
  pub s : Shared a b e f
  pub p_low : Positive s.p
  pub p_high : Positive (s.r -ℤ s.p)

module _ (K : ℤ) (K+ : Positive K) (a b e f u w : Point) (i : Inner u (out K a) (out K b))
    (j : Inner w (out K a) (out K b)) (s : Shared u w (out K e) (out K f)) where
  -- the weights of u and of w, p q r and K are 0 to 7; u w a b e f on one axis are 8 to 13
  abbrev ρ : ℤ → ℤ → ℤ → ℤ → ℤ → ℤ → List ℤ
  ρ u w a b e f = i.k ∷ i.m ∷ j.k ∷ j.m ∷ s.p ∷ s.q ∷ s.r ∷ K ∷ u ∷ w ∷ a ∷ b ∷ e ∷ f ∷ []

  abbrev weights : List ℤ
  weights = ρ (pos 0) (pos 0) (pos 0) (pos 0) (pos 0) (pos 0)

  -- what the weights of u and of w come to
  abbrev sum_u : ℤ
  sum_u = i.k +ℤ i.m

  abbrev sum_w : ℤ
  sum_w = j.k +ℤ j.m

  abbrev SumU : E
  SumU = v 0 :+ v 1

  abbrev SumW : E
  SumW = v 2 :+ v 3

  -- the shared point on ab, and on ef
  abbrev p : ℤ
  p = (s.r -ℤ s.p) *ℤ (i.m *ℤ sum_w) +ℤ s.p *ℤ (j.m *ℤ sum_u)

  abbrev PE : E
  PE = (v 6 :- v 4) :* (v 1 :* SumW) :+ v 4 :* (v 3 :* SumU)

  abbrev QE : E
  QE = v 5 :* (SumU :* SumW)

  abbrev RE : E
  RE = v 6 :* (SumU :* SumW)

  sums : Positive (sum_u *ℤ sum_w)
  sums = positive_mul (weight i) (weight j)

  -- the two sides of the equation of s, on one axis
  abbrev on_uw : E
  on_uw = At (v 6) (v 8) (v 4) (v 9)

  abbrev on_ef : E
  on_ef = At (v 6) (v 7 :* v 12) (v 5) (v 7 :* v 13)

  axis : (u w a b e f : ℤ) → i.k *ℤ (K *ℤ a -ℤ u) +ℤ i.m *ℤ (K *ℤ b -ℤ u) ≡ pos 0 →
      j.k *ℤ (K *ℤ a -ℤ w) +ℤ j.m *ℤ (K *ℤ b -ℤ w) ≡ pos 0 →
      s.r *ℤ u +ℤ s.p *ℤ (w -ℤ u) ≡ s.r *ℤ (K *ℤ e) +ℤ s.q *ℤ (K *ℤ f -ℤ K *ℤ e) →
      s.r *ℤ (sum_u *ℤ sum_w) *ℤ a +ℤ p *ℤ (b -ℤ a) ≡
      s.r *ℤ (sum_u *ℤ sum_w) *ℤ e +ℤ s.q *ℤ (sum_u *ℤ sum_w) *ℤ (f -ℤ e)
  axis u w a b e f mean_u mean_w same =
      diff_zero _ _ (zero_cancel K+
      (ring2 (ρ u w a b e f) (v 7 :* (At RE (v 10) PE (v 11) :- At RE (v 12) QE (v 13)))
      (SumU :* SumW :* (on_uw :- on_ef))
      ((v 6 :- v 4) :* SumW) (v 0 :* (v 7 :* v 10 :- v 8) :+ v 1 :* (v 7 :* v 11 :- v 8)) O
      (v 4 :* SumU) (v 2 :* (v 7 :* v 10 :- v 9) :+ v 3 :* (v 7 :* v 11 :- v 9)) O mean_u mean_w refl
      ∙ ring1 (ρ u w a b e f) (SumU :* SumW :* (on_uw :- on_ef)) O (SumU :* SumW) on_uw on_ef same refl))

  low : Positive p
  low =
      by_ring weights Positive (v 6 :+ ((v 6 :- v 4) :* (v 1 :* SumW :- I) :+ v 4 :* (v 3 :* SumU :- I))) PE refl
      (positive_add s.r_above (nonneg_add
      (nonneg_mul (le_sub s.p_to) (positive_pred (positive_mul i.m+ (weight j))))
      (nonneg_mul s.p_from (positive_pred (positive_mul j.m+ (weight i))))))

  high : Positive (s.r *ℤ (sum_u *ℤ sum_w) -ℤ p)
  high =
      by_ring weights Positive (v 6 :+ ((v 6 :- v 4) :* (v 0 :* SumW :- I) :+ v 4 :* (v 2 :* SumU :- I))) (RE :- PE)
      refl
      (positive_add s.r_above (nonneg_add
      (nonneg_mul (le_sub s.p_to) (positive_pred (positive_mul i.k+ (weight j))))
      (nonneg_mul s.p_from (positive_pred (positive_mul j.k+ (weight i))))))

  pub met : Met a b e f
  met = record {
    s = record {
      p = p;
      q = s.q *ℤ (sum_u *ℤ sum_w);
      r = s.r *ℤ (sum_u *ℤ sum_w);
      r_above = positive_mul s.r_above sums;
      p_from = positive_nonneg low;
      p_to = sub_le (positive_nonneg high);
      q_from = nonneg_mul s.q_from (positive_nonneg sums);
      q_to = sub_le (by_ring weights Nonneg ((v 6 :- v 5) :* (SumU :* SumW)) (RE :- QE) refl
          (nonneg_mul (le_sub s.q_to) (positive_nonneg sums)));
      same_x = axis u.x w.x a.x b.x e.x f.x i.mean_x j.mean_x s.same_x;
      same_y = axis u.y w.y a.y b.y e.y f.y i.mean_y j.mean_y s.same_y;
    };
    p_low = low;
    p_high = high;
  }
