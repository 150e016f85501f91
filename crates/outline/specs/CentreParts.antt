-- A corner k on the segment from corner i to corner j parts the question in two, on any drawing: i sees j as a centre
-- exactly when i sees k and k sees j.
--
--      i ------ k --------- j
-- (The theorems that follow are in proofs/, under the same name.)
use Rattle.std.specs.Prelude.{◌≡◌, refl, ◌⊎◌, [], ◌∷◌, ℤ, ◌-ℤ◌, ◌*ℤ◌, ◌≤ℤ◌, ◌<ℤ◌}
use Rattle.std.proofs.Common.{sym, subst, inl, inr}
use Rattle.whole.specs.Ring.{v, ◌:+◌, ◌:-◌, ◌:*◌, ring2, by_ring}
use Rattle.whole.specs.Order.{Nonneg, Positive, nonneg_add, nonneg_mul, positive_nonneg, positive_mul, le_sub, sub_le}
use Rattle.whole.specs.Order.{≤ℤ_total, ≤ℤ_antisym, ≤ℤ_strict, <ℤ_le}
use Rattle.outline.specs.Drawing.{Point}
use Rattle.outline.specs.Segments.{point_eq, turn_start, turn_end}
use Rattle.outline.specs.Placed.{On, Btw, on_of, frac_of, on_turn}
use Rattle.outline.specs.Along.{len2, along, along_start, along_low, along_high, apart_length, between}
use Rattle.outline.specs.Along.{same_x, same_y}

-- ---- what is on a part is on the whole: the parts of the way are multiplied
pub on_part : (z i k j : Point) → On z i k → On k i j → On z i j
on_part z i k j o q =
    let f = frac_of z i k o in
    let g = frac_of k i j q in
    on_of (record {
      m = f.m *ℤ g.m;
      k = f.k *ℤ g.k;
      k+ = positive_mul f.k+ g.k+;
      m0 = nonneg_mul f.m0 g.m0;
      m1 =
          sub_le (by_ring (f.m ∷ f.k ∷ g.m ∷ g.k ∷ []) Nonneg (v 1 :* (v 3 :- v 2) :+ v 2 :* (v 1 :- v 0))
          (v 1 :* v 3 :- v 0 :* v 2) refl
          (nonneg_add (nonneg_mul (positive_nonneg f.k+) (le_sub g.m1)) (nonneg_mul g.m0 (le_sub f.m1))));
      fx = axis z.x i.x k.x j.x f.m f.k g.m g.k f.fx g.fx;
      fy = axis z.y i.y k.y j.y f.m f.k g.m g.k f.fy g.fy;
    })
  where
    axis : (z i k j fm fk gm gk : ℤ) → fk *ℤ (z -ℤ i) ≡ fm *ℤ (k -ℤ i) → gk *ℤ (k -ℤ i) ≡ gm *ℤ (j -ℤ i) →
        fk *ℤ gk *ℤ (z -ℤ i) ≡ fm *ℤ gm *ℤ (j -ℤ i)
    axis z i k j fm fk gm gk e f =
        ring2 (z ∷ i ∷ k ∷ j ∷ fm ∷ fk ∷ gm ∷ gk ∷ []) (v 5 :* v 7 :* (v 0 :- v 1)) (v 4 :* v 6 :* (v 3 :- v 1))
        (v 7) (v 5 :* (v 0 :- v 1)) (v 4 :* (v 2 :- v 1)) (v 4) (v 7 :* (v 2 :- v 1)) (v 6 :* (v 3 :- v 1)) e f refl

pub part_on : (z i k j : Point) → On k i j → On z k j → On z i j
part_on z i k j q o = on_turn (on_part z j k i (on_turn o) (on_turn q))

-- ---- what is on the whole is on one of the parts
module _ (z i k j : Point) (o : On z i j) (q : On k i j) (ik : ¬ (i ≡ k)) (kj : ¬ (k ≡ j)) where
  -- with i and j one point, k would be that point too
  apart : Positive (len2 i j)
  apart =
      apart_length i j (λ e. let p = subst (λ w. On k i w) (sym e) q in
      ik (sym (point_eq (pinched p.bx) (pinched p.by))))
    where
      pinched : {u x : ℤ} → Btw u x u → x ≡ u
      pinched (inl h) = ≤ℤ_antisym h.1 h.0
      pinched (inr h) = ≤ℤ_antisym h.1 h.0

  after_i : along i j i <ℤ along i j k
  after_i =
      ≤ℤ_strict (subst (λ t. t ≤ℤ along i j k) (sym (along_start i j)) (along_low k i j q))
      (λ e. ik (sym (point_eq (same_x i j apart k i q.line (turn_start i j) e)
      (same_y i j apart k i q.line (turn_start i j) e))))

  before_j : along i j k <ℤ along i j j
  before_j =
      ≤ℤ_strict (along_high k i j q)
      (λ e. kj (sym (point_eq (same_x i j apart j k (turn_end i j) q.line e)
      (same_y i j apart j k (turn_end i j) q.line e))))

  pub on_either : On z i k ⊎ On z k j
  on_either = go (≤ℤ_total (along i j z) (along i j k))
    where
      go : (along i j z ≤ℤ along i j k) ⊎ (along i j k <ℤ along i j z) → On z i k ⊎ On z k j
      go (inl h) =
          inl (between i j z i k apart o.line (turn_start i j) q.line
          (subst (λ t. t ≤ℤ along i j z) (sym (along_start i j)) (along_low z i j o)) h after_i)
      go (inr h) =
          inr (between i j z k j apart o.line q.line (turn_end i j) (<ℤ_le h) (along_high z i j o) before_j)
