-- Past a corner W, on the way from it to a point J: a segment met beyond the point near W is met by the whole way, and
-- not at W itself.
--
--      W --- near -------- J      near: a K-th of the way, in a drawing K times as large
use Rattle.std.specs.Prelude.{◌≡◌, refl, List, [], ◌∷◌, ℤ, pos, ◌+ℤ◌, ◌-ℤ◌, ◌*ℤ◌}
use Rattle.whole.specs.Ring.{v, ◌:+◌, ◌:-◌, ◌:*◌, ring1, by_ring}
use Rattle.whole.specs.Order.{Nonneg, Positive, nonneg_mul, positive_nonneg, positive_add, positive_mul, le_sub}
use Rattle.whole.specs.Order.{sub_le}
use Rattle.outline.specs.Drawing.{Point, Shared, SharedOnlyAt}
use Rattle.outline.specs.Spell.{I}
use Rattle.outline.specs.Parity.{out}
use Rattle.outline.specs.Along.{len2}
use Rattle.outline.specs.Near.{near}
use Rattle.outline.specs.CornersApart.{at_start}
use Rattle.outline.specs.Compare.{plus_off}
use Rattle.outline.specs.Ray.{above_one}

-- ---- a point past the one near W, on the way to J: it is one of WJ, and not W
pub record Past (W J e f : Point) : Type 0 where
  pub at : Shared W J e f
  pub not_W : Positive at.p

pub past : (W J e f : Point) (K : ℤ) → Positive (K -ℤ pos 1) → Shared (near W K J) (out K J) (out K e) (out K f) →
    Past W J e f
past W J e f K big s = record {
  at = record {
    p = s.r +ℤ s.p *ℤ (K -ℤ pos 1);
    q = s.q *ℤ K;
    r = s.r *ℤ K;
    r_above = positive_mul s.r_above K+;
    p_from = positive_nonneg far;
    p_to =
        sub_le (by_ring ρ Nonneg ((v 2 :- v 0) :* (v 3 :- I))
        (v 2 :* v 3 :- (v 2 :+ v 0 :* (v 3 :- I))) refl
        (nonneg_mul (le_sub s.p_to) (positive_nonneg big)));
    q_from = nonneg_mul s.q_from (positive_nonneg K+);
    q_to = sub_le (by_ring ρ Nonneg ((v 2 :- v 1) :* v 3) (v 2 :* v 3 :- v 1 :* v 3) refl
        (nonneg_mul (le_sub s.q_to) (positive_nonneg K+)));
    same_x = axis W.x J.x e.x f.x s.same_x;
    same_y = axis W.y J.y e.y f.y s.same_y;
  };
  not_W = far;
}
  where
    ρ : List ℤ
    ρ = s.p ∷ s.q ∷ s.r ∷ K ∷ []

    K+ : Positive K
    K+ = above_one K big

    far : Positive (s.r +ℤ s.p *ℤ (K -ℤ pos 1))
    far = positive_add s.r_above (nonneg_mul s.p_from (positive_nonneg big))

    axis : (w j e f : ℤ) →
        s.r *ℤ (K *ℤ w +ℤ (j -ℤ w)) +ℤ s.p *ℤ (K *ℤ j -ℤ (K *ℤ w +ℤ (j -ℤ w)))
        ≡ s.r *ℤ (K *ℤ e) +ℤ s.q *ℤ (K *ℤ f -ℤ K *ℤ e) →
        s.r *ℤ K *ℤ w +ℤ (s.r +ℤ s.p *ℤ (K -ℤ pos 1)) *ℤ (j -ℤ w) ≡ s.r *ℤ K *ℤ e +ℤ s.q *ℤ K *ℤ (f -ℤ e)
    axis w j e f h =
        ring1 (s.p ∷ s.q ∷ s.r ∷ K ∷ w ∷ j ∷ e ∷ f ∷ [])
        (v 2 :* v 3 :* v 4 :+ (v 2 :+ v 0 :* (v 3 :- I)) :* (v 5 :- v 4))
        (v 2 :* v 3 :* v 6 :+ v 1 :* v 3 :* (v 7 :- v 6)) I
        (v 2 :* (v 3 :* v 4 :+ (v 5 :- v 4)) :+ v 0 :* (v 3 :* v 5 :- (v 3 :* v 4 :+ (v 5 :- v 4))))
        (v 2 :* (v 3 :* v 6) :+ v 1 :* (v 3 :* v 7 :- v 3 :* v 6)) h refl

-- so no segment is met there that shares W only with the way
pub only_start : (W J e f : Point) → Positive (len2 W J) → SharedOnlyAt W W J e f → Past W J e f → ⊥
only_start W J e f len only t =
    plus_off t.not_W (at_start W J t.at.p t.at.r len (only t.at))
