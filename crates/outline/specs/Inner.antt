-- A point q of the segment ab strictly between its ends, as a mean of them: k (a - q) + m (b - q) = 0 with k, m > 0.
use Rattle.std.specs.Prelude.{◌≡◌, refl, List, [], ◌∷◌, ℤ, pos, ◌+ℤ◌, ◌-ℤ◌, ◌*ℤ◌, ◌<ℤ◌}
use Rattle.std.proofs.Common.{◌∙◌, subst}
use Rattle.std.proofs.Math.IntN.{+ℤ_comm}
use Rattle.whole.specs.Ring.{E, v, ◌:+◌, ◌:-◌, ◌:*◌, neg, ring, ring1, ring2, by_ring}
use Rattle.whole.specs.Order.{Nonneg, Positive, nonneg_pos, positive_pos, positive_nonneg, positive_add, positive_mul}
use Rattle.whole.specs.Order.{positive_cancel, zero_cancel, sub_le, sub_lt}
use Rattle.outline.specs.Drawing.{Point, Shared, turn_of}
use Rattle.outline.specs.Spell.{A, B, C, P, Q, O, I, env, TurnE}
use Rattle.outline.specs.Parity.{out}
use Rattle.outline.specs.EveryPoint.{sum2}
use Rattle.outline.specs.Near.{near}

pub record Inner (q a b : Point) : Type 0 where
  pub k : ℤ
  pub m : ℤ
  pub k+ : Positive k
  pub m+ : Positive m
  pub mean_x : k *ℤ (a.x -ℤ q.x) +ℤ m *ℤ (b.x -ℤ q.x) ≡ pos 0
  pub mean_y : k *ℤ (a.y -ℤ q.y) +ℤ m *ℤ (b.y -ℤ q.y) ≡ pos 0

pub weight : {q a b : Point} (i : Inner q a b) → Positive (i.k +ℤ i.m)
weight i = positive_add i.k+ (positive_nonneg i.m+)

pub inner_turned : {q a b : Point} → Inner q a b → Inner q b a
inner_turned {q} {a} {b} i = record {
  k = i.m;
  m = i.k;
  k+ = i.m+;
  m+ = i.k+;
  mean_x = +ℤ_comm (i.m *ℤ (b.x -ℤ q.x)) (i.k *ℤ (a.x -ℤ q.x)) ∙ i.mean_x;
  mean_y = +ℤ_comm (i.m *ℤ (b.y -ℤ q.y)) (i.k *ℤ (a.y -ℤ q.y)) ∙ i.mean_y;
}

-- it is on the line
pub inner_line : {q a b : Point} → Inner q a b → turn_of a b q ≡ pos 0
inner_line {q} {a} {b} i =
    zero_cancel (weight i)
    (ring2 (env a b q q i.k i.m (pos 0)) ((P :+ Q) :* TurnE A B C) O
    (B.y :- A.y) (P :* (A.x :- C.x) :+ Q :* (B.x :- C.x)) O
    (neg (B.x :- A.x)) (P :* (A.y :- C.y) :+ Q :* (B.y :- C.y)) O i.mean_x i.mean_y refl)

-- ---- on one axis: k m a b q are 0 to 4
abbrev mean_e : E
mean_e = v 0 :* (v 2 :- v 4) :+ v 1 :* (v 3 :- v 4)

module _ (k m a b q : ℤ) (k+ : Positive k) (m+ : Positive m) (mean : k *ℤ (a -ℤ q) +ℤ m *ℤ (b -ℤ q) ≡ pos 0) where
  abbrev ρ : List ℤ
  ρ = k ∷ m ∷ a ∷ b ∷ q ∷ []

  km : Positive (k +ℤ m)
  km = positive_add k+ (positive_nonneg m+)

  -- between two numbers
  pub inner_between : Positive (b -ℤ a) → (a <ℤ q) × (q <ℤ b)
  inner_between h = (
    sub_lt (positive_cancel (positive_nonneg km) (subst Positive
        (ring1 ρ (v 1 :* (v 3 :- v 2)) ((v 0 :+ v 1) :* (v 4 :- v 2)) I mean_e O mean refl) (positive_mul m+ h))),
    sub_lt (positive_cancel (positive_nonneg km) (subst Positive
        (ring1 ρ (v 0 :* (v 3 :- v 2)) ((v 0 :+ v 1) :* (v 3 :- v 4)) (neg I) mean_e O mean refl)
        (positive_mul k+ h))),
  )

  -- or equal to both
  pub inner_level : b -ℤ a ≡ pos 0 → a -ℤ q ≡ pos 0
  inner_level h =
      zero_cancel km
      (ring2 ρ ((v 0 :+ v 1) :* (v 2 :- v 4)) O I mean_e O (neg (v 1)) (v 3 :- v 2) O mean h refl)

-- ---- a segment that ends at q shares it with ab
pub inner_shared : (q a b : Point) → Inner q a b → Shared q q a b
inner_shared q a b i = record {
  p = pos 0;
  q = i.m;
  r = i.k +ℤ i.m;
  r_above = weight i;
  p_from = nonneg_pos 0;
  p_to = positive_nonneg (weight i);
  q_from = positive_nonneg i.m+;
  q_to = sub_le (by_ring (i.k ∷ i.m ∷ []) Nonneg (v 0) (v 0 :+ v 1 :- v 1) refl (positive_nonneg i.k+));
  same_x = axis q.x a.x b.x i.mean_x;
  same_y = axis q.y a.y b.y i.mean_y;
}
  where
    axis : (q a b : ℤ) → i.k *ℤ (a -ℤ q) +ℤ i.m *ℤ (b -ℤ q) ≡ pos 0 →
        (i.k +ℤ i.m) *ℤ q +ℤ pos 0 *ℤ (q -ℤ q) ≡ (i.k +ℤ i.m) *ℤ a +ℤ i.m *ℤ (b -ℤ a)
    axis q a b e =
        ring1 (i.k ∷ i.m ∷ a ∷ b ∷ q ∷ []) ((v 0 :+ v 1) :* v 4 :+ O :* (v 4 :- v 4))
        ((v 0 :+ v 1) :* v 2 :+ v 1 :* (v 3 :- v 2)) (neg I) mean_e O e refl

-- ---- such points: in a drawing K times as large, half way in one twice as large, and close to W on the way to z
pub inner_grown : (K : ℤ) (q a b : Point) → Inner q a b → Inner (out K q) (out K a) (out K b)
inner_grown K q a b i = record {
  k = i.k;
  m = i.m;
  k+ = i.k+;
  m+ = i.m+;
  mean_x = axis q.x a.x b.x i.mean_x;
  mean_y = axis q.y a.y b.y i.mean_y;
}
  where
    axis : (q a b : ℤ) → i.k *ℤ (a -ℤ q) +ℤ i.m *ℤ (b -ℤ q) ≡ pos 0 →
        i.k *ℤ (K *ℤ a -ℤ K *ℤ q) +ℤ i.m *ℤ (K *ℤ b -ℤ K *ℤ q) ≡ pos 0
    axis q a b e =
        ring1 (i.k ∷ i.m ∷ a ∷ b ∷ q ∷ K ∷ [])
        (v 0 :* (v 5 :* v 2 :- v 5 :* v 4) :+ v 1 :* (v 5 :* v 3 :- v 5 :* v 4)) O (v 5) mean_e O e refl

pub inner_half : (a b : Point) → Inner (sum2 a b) (out (pos 2) a) (out (pos 2) b)
inner_half a b = record {
  k = pos 1;
  m = pos 1;
  k+ = positive_pos 0;
  m+ = positive_pos 0;
  mean_x = axis a.x b.x;
  mean_y = axis a.y b.y;
}
  where
    axis : (a b : ℤ) → pos 1 *ℤ (pos 2 *ℤ a -ℤ (a +ℤ b)) +ℤ pos 1 *ℤ (pos 2 *ℤ b -ℤ (a +ℤ b)) ≡ pos 0
    axis a b =
        ring (a ∷ b ∷ []) (I :* ((I :+ I) :* v 0 :- (v 0 :+ v 1)) :+ I :* ((I :+ I) :* v 1 :- (v 0 :+ v 1))) O refl

pub inner_near : (W z : Point) (K : ℤ) → Positive (K -ℤ pos 1) → Inner (near W K z) (out K W) (out K z)
inner_near W z K h = record {
  k = K -ℤ pos 1;
  m = pos 1;
  k+ = h;
  m+ = positive_pos 0;
  mean_x = axis W.x z.x;
  mean_y = axis W.y z.y;
}
  where
    -- K w z are 0 to 2
    near_e : E
    near_e = v 0 :* v 1 :+ (v 2 :- v 1)

    axis : (w z : ℤ) →
        (K -ℤ pos 1) *ℤ (K *ℤ w -ℤ (K *ℤ w +ℤ (z -ℤ w))) +ℤ pos 1 *ℤ (K *ℤ z -ℤ (K *ℤ w +ℤ (z -ℤ w))) ≡ pos 0
    axis w z = ring (K ∷ w ∷ z ∷ []) ((v 0 :- I) :* (v 0 :* v 1 :- near_e) :+ I :* (v 0 :* v 2 :- near_e)) O refl
