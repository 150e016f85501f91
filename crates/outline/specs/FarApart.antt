-- Segments far apart: on one of the axes the extent of one lies below that of the other, so they share no point (02,
-- K2: "first compare their extents and form products only if these overlap"). That comes from 01's p, q and r, and
-- from no turn.
--
--     d ------ c                   c and d lie below a and b: the extents do not overlap
--                   a ---- b
use Rattle.std.specs.Prelude.{◌≡◌, refl, ◌⊎◌, [], ◌∷◌, ℤ, ◌+ℤ◌, ◌-ℤ◌, ◌*ℤ◌, ◌≤ℤ◌, ◌<ℤ◌}
use Rattle.std.proofs.Common.{subst, inl, inr}
use Rattle.std.proofs.Math.IntN.{pos}
use Rattle.std.specs.Int.Signed.{<ℤ_irrefl}
use Rattle.whole.specs.Ring.{E, v, ◌:+◌, ◌:-◌, ◌:*◌, ring1}
use Rattle.whole.specs.Order.{Nonneg, Positive, le_sub, lt_sub, nonneg_add, nonneg_mul}
use Rattle.whole.specs.Order.{positive_add, positive_mul, positive_pred}
use Rattle.outline.specs.Drawing.{Point, Shared}
use Rattle.outline.specs.Segments.{exchanged}
use Rattle.outline.specs.Spell.{O, I, At}

-- ---- on one axis: p lies below both a and b, or above both
abbrev pub Below : ℤ → ℤ → ℤ → Type 0
Below p a b = (p <ℤ a) × (p <ℤ b)

abbrev pub Above : ℤ → ℤ → ℤ → Type 0
Above p a b = (a <ℤ p) × (b <ℤ p)

-- both ends c and d do. Extents that touch at an end overlap.
abbrev pub Beyond : ℤ → ℤ → ℤ → ℤ → Type 0
Beyond a b c d = (Below c a b × Below d a b) ⊎ (Above c a b × Above d a b)

-- the segments ab and cd, on either axis
abbrev pub FarApart : Point → Point → Point → Point → Type 0
FarApart a b c d = Beyond a.x b.x c.x d.x ⊎ Beyond a.y b.y c.y d.y

-- ---- on one axis the point of ab that p and r name lies above the point of cd that q and r name: each end of ab is
-- above each end of cd, by one at least, and is weighed by where the two points are. Variables 0 to 6 are a, b, c, d,
-- p, q and r.
weighed : E
weighed =
    (v 6 :- v 4) :* (v 6 :- v 5) :* (v 0 :- v 2 :- I) :+ (v 6 :- v 4) :* v 5 :* (v 0 :- v 3 :- I) :+
    (v 4 :* (v 6 :- v 5) :* (v 1 :- v 2 :- I) :+ v 4 :* v 5 :* (v 1 :- v 3 :- I))

module _ {a b c d p q r : ℤ} (r_above : pos 0 <ℤ r) (p_from : pos 0 ≤ℤ p) (p_to : p ≤ℤ r) (q_from : pos 0 ≤ℤ q)
    (q_to : q ≤ℤ r) where
  differ : Below c a b → Below d a b → ¬ (r *ℤ a +ℤ p *ℤ (b -ℤ a) ≡ r *ℤ c +ℤ q *ℤ (d -ℤ c))
  unfolding weighed
  differ hc hd same =
      <ℤ_irrefl
      (subst Positive
      (ring1 (a ∷ b ∷ c ∷ d ∷ p ∷ q ∷ r ∷ []) (v 6 :* v 6 :+ weighed) O (v 6) (At (v 6) (v 0) (v 4) (v 1))
      (At (v 6) (v 2) (v 5) (v 3)) same refl)
      (positive_add (positive_mul r_above r_above)
      (nonneg_add
      (nonneg_add (by (le_sub p_to) (le_sub q_to) hc.0) (by (le_sub p_to) q_from hd.0))
      (nonneg_add (by p_from (le_sub q_to) hc.1) (by p_from q_from hd.1)))))
    where
      by : {x y u w : ℤ} → Nonneg x → Nonneg y → u <ℤ w → Nonneg (x *ℤ y *ℤ (w -ℤ u -ℤ pos 1))
      by hx hy l = nonneg_mul (nonneg_mul hx hy) (positive_pred (lt_sub l))

below_x : {a b c d : Point} → Below c.x a.x b.x → Below d.x a.x b.x → ¬ Shared a b c d
below_x hc hd s = differ s.r_above s.p_from s.p_to s.q_from s.q_to hc hd s.same_x

below_y : {a b c d : Point} → Below c.y a.y b.y → Below d.y a.y b.y → ¬ Shared a b c d
below_y hc hd s = differ s.r_above s.p_from s.p_to s.q_from s.q_to hc hd s.same_y

pub far_apart : {a b c d : Point} → FarApart a b c d → ¬ Shared a b c d
far_apart (inl (inl h)) s = below_x h.0 h.1 s
far_apart (inl (inr h)) s = below_x (h.0.0, h.1.0) (h.0.1, h.1.1) (exchanged s)
far_apart (inr (inl h)) s = below_y h.0 h.1 s
far_apart (inr (inr h)) s = below_y (h.0.0, h.1.0) (h.0.1, h.1.1) (exchanged s)
