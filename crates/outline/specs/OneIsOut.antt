-- At a point W where one side runs through the segment IJ and no other side is near: of the two points of IJ close to
-- W, one on each side of the side, one is not in or on the outline. For each is on no side, and just one of them has
-- an odd number of sides to its right.
--
--               \
--      I ------ . W . ----- J
--                 \
use Rattle.std.specs.Prelude.{◌≡◌, refl, true, ◌⊎◌, List, [], ◌∷◌, ℕ, zero, suc, ◌<◌, ◌≤◌, ℤ, pos, ◌≤ℤ◌, ◌<ℤ◌}
use Rattle.std.proofs.Common.{sym, ◌∙◌, ap, subst, inl, inr, arith, le_refl, not-suc-le-zero}
use Rattle.std.proofs.lemmas.Bool.{false≢true}
use Rattle.std.proofs.Math.Decide.{ℕ_discrete}
use Rattle.std.specs.Int.Signed.{≤ℤ_refl, <ℤ_irrefl}
use Rattle.whole.specs.Ring.{E, v, ◌:-◌, ◌:*◌, neg, ring1}
use Rattle.whole.specs.Order.{Positive, positive_pos, positive_mul, ≤ℤ_trans, <ℤ_le, ≤ℤ_total}
use Rattle.outline.specs.Drawing.{Point, Shared, turn_of}
use Rattle.outline.specs.Spell.{PointE, A, B, C, D, O, I, OutE, TurnE}
use Rattle.outline.specs.Odd.{◌⊕◌}
use Rattle.outline.specs.Placed.{On, on_turn, touch_meets}
use Rattle.outline.specs.Along.{len2}
use Rattle.outline.specs.Parity.{odd, OnSide, InOn, out, large}
use Rattle.outline.specs.Through.{RunsThrough, parity_flips}
use Rattle.outline.specs.Near.{near, NearE, Off, off_side}
use Rattle.outline.specs.Topmost.{last}

-- I, J, a and b are A to D, W is 8 and 9, K is 10
abbrev W : PointE
W = record { x = v 8; y = v 9 }

abbrev K : E
K = v 10

-- ---- a side that runs through IJ at W runs through close to W too
module _ (i j a b w : Point) (on_ij : turn_of i j w ≡ pos 0) (on_ab : turn_of a b w ≡ pos 0)
    (t : RunsThrough i j a b) where
  abbrev ρ : ℤ → List ℤ
  ρ k =
      i.x ∷ i.y ∷ j.x ∷ j.y ∷ a.x ∷ a.y ∷ b.x ∷ b.y ∷ w.x ∷ w.y ∷ k ∷ []

  near_through : (k : ℤ) → Positive k → RunsThrough (near w k i) (near w k j) (out k a) (out k b)
  near_through k k+ =
      record {
        t1 =
            subst Positive (ring1 (ρ k) (K :* TurnE B A C) (TurnE (NearE W K B) (NearE W K A) (OutE K C))
            (neg (K :- I))
            (TurnE A B W) O on_ij refl) (positive_mul k+ t.t1);
        t2 =
            subst Positive (ring1 (ρ k) (K :* TurnE A B D) (TurnE (NearE W K A) (NearE W K B) (OutE K D)) (K :- I)
            (TurnE A B W) O on_ij refl) (positive_mul k+ t.t2);
        t3 =
            subst Positive (ring1 (ρ k) (K :* TurnE C D A) (TurnE (OutE K C) (OutE K D) (NearE W K A))
            (neg (K :* (K :- I)))
            (TurnE C D W) O on_ab refl) (positive_mul k+ t.t3);
        t4 =
            subst Positive (ring1 (ρ k) (K :* TurnE D C B) (TurnE (OutE K D) (OutE K C) (NearE W K B)) (K :* (K :- I))
            (TurnE C D W) O on_ab refl) (positive_mul k+ t.t4);
      }

-- ---- the outline k times as large, and what is to be shown of the two points there
pub record OneOut (d : ℕ → Point) (n : ℕ) (i j w : Point) : Type 0 where
  pub k : ℤ
  pub k+ : Positive k
  pub not_both : InOn (large k d) n (near w k i) → ¬ InOn (large k d) n (near w k j)

module _ (d : ℕ → Point) (n s : ℕ) (i j w : Point) where
  -- from the scale on, none of the first m sides but side s meets the segment between the two points
  abbrev Clear : ℕ → ℤ → Type 0
  Clear m k = ¬ Shared (near w k i) (near w k j) (out k (d m)) (out k (d (suc m)))

  record Far (m : ℕ) : Type 0 where
    from : ℤ
    from+ : Positive from
    far : (l : ℕ) → l < m → ¬ (l ≡ s) → (k : ℤ) → from ≤ℤ k → Clear l k

  -- one side more, with the larger of two scales
  more : (m : ℕ) → Far m → Off i j w (d m) (d (suc m)) → Far (suc m)
  more m f g = pick (≤ℤ_total f.from g.M)
    where
      at : (k₀ : ℤ) → f.from ≤ℤ k₀ → g.M ≤ℤ k₀ → (l : ℕ) → ¬ (l ≡ s) → (l < m) ⊎ (l ≡ m) → (k : ℤ) → k₀ ≤ℤ k →
          Clear l k
      at k₀ a b l ne (inl h) k q = f.far l h ne k (≤ℤ_trans a q)
      at k₀ a b l ne (inr e) k q = subst (λ x. Clear x k) (sym e) (g.far k (≤ℤ_trans b q))

      pick : (f.from ≤ℤ g.M) ⊎ (g.M <ℤ f.from) → Far (suc m)
      pick (inl q) =
          record { from = g.M; from+ = g.M+; far = λ l h ne. at g.M q (≤ℤ_refl g.M) l ne (last l m h) }
      pick (inr q) =
          record {
            from = f.from;
            from+ = f.from+;
            far = λ l h ne. at f.from (≤ℤ_refl f.from) (<ℤ_le q) l ne (last l m h);
          }

  all_far : ((m : ℕ) → m < n → ¬ (m ≡ s) → Off i j w (d m) (d (suc m))) → (m : ℕ) → m ≤ n → Far m
  all_far off zero h =
      record { from = pos 1; from+ = positive_pos 0; far = λ l b. absurd (not-suc-le-zero b) }
  all_far off (suc m) h = go (all_far off m (omega arith)) (ℕ_discrete m s)
    where
      go : Far m → Dec (m ≡ s) → Far (suc m)
      go f (yes e) = record { from = f.from; from+ = f.from+; far = λ l b ne. at l ne (last l m b) }
        where
          at : (l : ℕ) → ¬ (l ≡ s) → (l < m) ⊎ (l ≡ m) → (k : ℤ) → f.from ≤ℤ k → Clear l k
          at l ne (inl b) = f.far l b ne
          at l ne (inr g) = absurd (ne (g ∙ e))
      go f (no ne) = more m f (off m h ne)

-- ---- side s runs through at w, and w is on no other side
module _ (d : ℕ → Point) (n : ℕ) (closed : d n ≡ d 0) (s : ℕ) (s< : s < n) (i j w : Point)
    (on_ij : turn_of i j w ≡ pos 0) (on_s : turn_of (d s) (d (suc s)) w ≡ pos 0)
    (t : RunsThrough i j (d s) (d (suc s)))
    (lengths : (m : ℕ) → m < n → Positive (len2 (d m) (d (suc m))))
    (off : (m : ℕ) → m < n → ¬ (m ≡ s) → ¬ On w (d m) (d (suc m))) where
  module _ (k : ℤ) (k+ : Positive k) (far : (m : ℕ) → m < n → ¬ (m ≡ s) → Clear d n s i j w m k) where
    runs : RunsThrough (near w k i) (near w k j) (large k d s) (large k d (suc s))
    runs = near_through i j (d s) (d (suc s)) w on_ij on_s t k k+

    off_first : ¬ OnSide (large k d) n (near w k i)
    off_first o = at (ℕ_discrete o.m s)
      where
        at : ¬ Dec (o.m ≡ s)
        at (yes e) =
            <ℤ_irrefl (subst Positive
            (subst (λ m. On (near w k i) (large k d m) (large k d (suc m))) e o.on).line runs.t3)
        at (no e) = far o.m o.below e (touch_meets _ _ _ _ (inr (inl o.on)))

    off_second : ¬ OnSide (large k d) n (near w k j)
    off_second o = at (ℕ_discrete o.m s)
      where
        at : ¬ Dec (o.m ≡ s)
        at (yes e) =
            <ℤ_irrefl (subst Positive
            (on_turn (subst (λ m. On (near w k j) (large k d m) (large k d (suc m))) e o.on)).line runs.t4)
        at (no e) = far o.m o.below e (touch_meets _ _ _ _ (inr (inr o.on)))

    odd_only : (z : Point) → ¬ OnSide (large k d) n z → InOn (large k d) n z → odd (large k d) z n ≡ true
    odd_only z out (inl o) = absurd (out o)
    odd_only z out (inr e) = e

    differ : InOn (large k d) n (near w k i) → ¬ InOn (large k d) n (near w k j)
    differ p q =
        false≢true
        (sym (ap (λ z. z ⊕ odd (large k d) (near w k j) n) (odd_only (near w k i) off_first p)
        ∙ ap (λ z. true ⊕ z) (odd_only (near w k j) off_second q))
        ∙ parity_flips (large k d) n (ap (out k) closed) (near w k i) (near w k j) s s< runs far)

  pub one_is_out : OneOut d n i j w
  one_is_out =
      let f =
      all_far d n s i j w (λ m h ne. off_side i j w (d m) (d (suc m)) (lengths m h) (off m h ne)) n (le_refl n) in
      record {
        k = f.from;
        k+ = f.from+;
        not_both = differ f.from f.from+ (λ m h ne. f.far m h ne f.from (≤ℤ_refl f.from));
      }
