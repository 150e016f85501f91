-- The theorems of `HalfWay`: its definitions and first laws are in specs/.
use Rattle.std.specs.Prelude.{◌≡◌, refl, true, List, ℕ, suc, ◌<◌, ℤ, pos, ◌-ℤ◌}
use Rattle.std.proofs.Common.{subst, inl, inr}
use Rattle.std.proofs.Math.Decide.{ℕ_discrete}
use Rattle.whole.specs.Ring.{◌:-◌, ◌:*◌, neg, ring2}
use Rattle.whole.specs.Order.{Positive, positive_pos, positive_mul}
use Rattle.outline.specs.Drawing.{Point, IsAt, SharedOnlyAt, Simple, corner, corners, after, prev, EndsAt, Angle}
use Rattle.outline.specs.Drawing.{Beside}
use Rattle.outline.specs.InOrOn.{InOrOn}
use Rattle.outline.specs.Segments.{Dot, only_second}
use Rattle.outline.specs.Ends.{OnlyEnd, only_complete}
use Rattle.outline.specs.Round.{prev_below, next_prev}
use Rattle.outline.specs.Seeing.{Passes, no_end}
use Rattle.outline.specs.Spell.{A, B, P, R, O, env, DotE, ab_x, ab_y}
use Rattle.outline.specs.Placed.{touch_meets}
use Rattle.outline.specs.Parity.{odd, out, large, InOn}
use Rattle.outline.specs.EveryPoint.{sum2}
use Rattle.outline.specs.Near.{near}
use Rattle.outline.specs.Reading.{round, round_inner, round_closed}
use Rattle.outline.proofs.Reading.{in_read, in_said}
use Rattle.outline.specs.CentreTest.{half}
use Rattle.outline.specs.Along.{apart_length}
use Rattle.outline.specs.CornersApart.{corners_apart}
use Rattle.outline.specs.Compare.{plus_off}
use Rattle.outline.specs.Inner.{inner_half, inner_near}
use Rattle.outline.specs.Met.{Met, met}
use Rattle.outline.specs.Value.{steady_value, clear_steady}
use Rattle.outline.specs.Ray.{above_one}
use Rattle.outline.specs.CornerTells.{Verdict}
use Rattle.outline.specs.AtCorner.{left_of, at_corner}
use Rattle.outline.specs.HalfWay.{mid}

-- ---- a point strictly between the ends of ab is at neither
module _ (a b : Point) (p r : ℤ) (long : Positive (Dot a b b)) where
  not_at_start : Positive p → ¬ IsAt a a b p r
  not_at_start h at =
      plus_off (positive_mul h long)
      (ring2 (env a b b b p (pos 0) r) (P :* DotE A B B) O (B.x :- A.x) ab_x (R :* A.x) (B.y :- A.y) ab_y
      (R :* A.y) at.on_x at.on_y refl)

  not_at_end : Positive (r -ℤ p) → ¬ IsAt b a b p r
  not_at_end h at =
      plus_off (positive_mul h long)
      (ring2 (env a b b b p (pos 0) r) ((R :- P) :* DotE A B B) O (neg (B.x :- A.x)) ab_x (R :* B.x)
      (neg (B.y :- A.y)) ab_y (R :* B.y) at.on_x at.on_y refl)

module _ (d : List ℤ) (simple : Simple d) (i j : ℕ) (hi : i < corners d) (hj : j < corners d) (apart : ¬ Beside d i j)
    (passes : (k : ℕ) → k < corners d → Passes d i j k) where
  differ : ¬ (corner d i ≡ corner d j)
  differ = corners_apart d simple i j hi hj (λ e. apart (inl e))

  long : Positive (Dot (corner d i) (corner d j) (corner d j))
  long = apart_length (corner d i) (corner d j) differ

  -- ---- no side meets the segment between its ends
  no_side : (k : ℕ) → k < corners d → ¬ Met (corner d i) (corner d j) (corner d k) (corner d (after d k))
  no_side k hk t = go (ℕ_discrete k i) (ℕ_discrete (after d k) i) (ℕ_discrete k j) (ℕ_discrete (after d k) j)
    where
      at_i : ¬ EndsAt d k i
      at_i e =
          not_at_start (corner d i) (corner d j) t.s.p t.s.r long t.p_low ((passes k hk).ends_at_i e t.s)

      at_j : ¬ EndsAt d k j
      at_j e =
          not_at_end (corner d i) (corner d j) t.s.p t.s.r long t.p_high ((passes k hk).ends_at_j e t.s)

      go : Dec (k ≡ i) → Dec (after d k ≡ i) → Dec (k ≡ j) → Dec (after d k ≡ j) → ⊥
      go (yes e) f g h = at_i (inl e)
      go (no e) (yes f) g h = at_i (inr f)
      go (no e) (no f) (yes g) h = at_j (inl g)
      go (no e) (no f) (no g) (yes h) = at_j (inr h)
      go (no e) (no f) (no g) (no h) = (passes k hk).other (no_end d e f) (no_end d g h) t.s

  no_side_round : (m : ℕ) → m < corners d → ¬ Met (corner d i) (corner d j) (round d m) (round d (suc m))
  no_side_round m hm t =
      no_side m hm (subst (λ a. Met (corner d i) (corner d j) a (corner d (after d m))) (round_inner d m hm) t)

  -- ---- so close to i the parity is that half way
  near_mid : (K : ℤ) → Positive (K -ℤ pos 1) →
      odd (large K (round d)) (near (corner d i) K (corner d j)) (corners d) ≡ mid d i j
  near_mid K big =
      steady_value (round d) (corners d) (round_closed d) (corner d i) (corner d j)
      (clear_steady (round d) (corners d) (corner d i) (corner d j) no_side_round) K (above_one K big)
      (near (corner d i) K (corner d j)) (inner_near (corner d i) (corner d j) K big)

  pub off_after : OnlyEnd (corner d i) (corner d j) (corner d (after d i))
  off_after = only_complete ((passes i hi).ends_at_i (inl refl))

  pub off_before : OnlyEnd (corner d i) (corner d j) (corner d (prev (corners d) i))
  off_before =
      only_complete (only_second
      (subst (λ k. SharedOnlyAt (corner d i) (corner d i) (corner d j) (corner d (prev (corners d) i)) (corner d k))
      (next_prev (corners d) i hi)
      ((passes (prev (corners d) i) (prev_below (corners d) i hi)).ends_at_i (inr (next_prev (corners d) i hi)))))

  -- the angle at i
  pub angle_mid : Verdict (left_of d 0) (Angle d i j) (mid d i j)
  angle_mid =
      let c = at_corner d simple i hi (corner d j) differ off_after off_before in
      subst (Verdict (left_of d 0) (Angle d i j)) (near_mid c.K c.K-big) c.told

  -- ---- half way is on no side, so in or on there is the parity
  pub mid_in : mid d i j ≡ true → InOrOn d (half (corner d i) (corner d j))
  mid_in e = in_said d (half (corner d i) (corner d j)) (inr e)

  pub in_mid : InOrOn d (half (corner d i) (corner d j)) → mid d i j ≡ true
  in_mid h = go (in_read d (half (corner d i) (corner d j)) h)
    where
      middle : Point
      middle = sum2 (corner d i) (corner d j)

      go : InOn (large (pos 2) (round d)) (corners d) (sum2 (corner d i) (corner d j)) → mid d i j ≡ true
      go (inr e) = e
      go (inl o) =
          absurd (no_side_round o.m o.below
          (met (pos 2) (positive_pos 1) (corner d i) (corner d j) (round d o.m) (round d (suc o.m)) middle middle
          (inner_half (corner d i) (corner d j)) (inner_half (corner d i) (corner d j))
          (touch_meets middle middle (out (pos 2) (round d o.m)) (out (pos 2) (round d (suc o.m)))
          (inr (inl o.on)))))
