-- The theorems of `Reading`: its definitions and first laws are in specs/.
use Rattle.std.specs.Prelude.{◌≡◌, List, ℕ, suc, ◌<◌, ℤ}
use Rattle.std.proofs.Common.{sym, ap, subst, inl, inr}
use Rattle.outline.specs.Drawing.{Point, corner, corners, after}
use Rattle.outline.specs.InOrOn.{Spot, RightSide, InOrOn, CentreSees}
use Rattle.outline.specs.Tells.{Tells, if_yes, is_yes}
use Rattle.outline.specs.Passing.{crosses, top, grown}
use Rattle.outline.proofs.Passing.{passing}
use Rattle.outline.specs.Odd.{odd_tells}
use Rattle.outline.specs.Placed.{On}
use Rattle.outline.specs.Parity.{InOn, out, large}
use Rattle.outline.specs.EveryPoint.{Sight}
use Rattle.outline.specs.Reading.{on_read, on_said, round, round_inner}

-- ---- in or on
module _ (d : List ℤ) (z : Spot) where
  abbrev big : ℕ → Point
  big = large z.r (round d)

  side_from : (k : ℕ) → k < corners d → big k ≡ grown z (corner d k)
  side_from k h = ap (out z.r) (round_inner d k h)

  right_side : (k : ℕ) → k < corners d → Tells (crosses (top z) (big k) (big (suc k))) (RightSide d z k)
  right_side k h =
      subst (λ p. Tells (crosses (top z) p (big (suc k))) (RightSide d z k)) (sym (side_from k h))
      (passing z (corner d k) (corner d (after d k)))

  pub in_read : InOrOn d z → InOn big (corners d) (top z)
  in_read (inl s) =
      inl (record {
        m = s.0;
        below = s.1;
        on =
            subst (λ p. On (top z) p (big (suc s.0))) (sym (side_from s.0 s.1))
            (on_read z (corner d s.0) (corner d (after d s.0)) s.2);
      })
  in_read (inr c) = inr (is_yes (odd_tells (RightSide d z) _ (corners d) right_side) c)

  pub in_said : InOn big (corners d) (top z) → InOrOn d z
  in_said (inl s) =
      inl (
        s.m,
        s.below,
        on_said z (corner d s.m) (corner d (after d s.m))
            (subst (λ p. On (top z) p (big (suc s.m))) (side_from s.m s.below) s.on),
      )
  in_said (inr e) = inr (if_yes (odd_tells (RightSide d z) _ (corners d) right_side) e)

-- ---- a centre's sight
module _ (d : List ℤ) (i j : ℕ) where
  pub sight_read : CentreSees d i j → Sight (round d) (corners d) (corner d i) (corner d j)
  sight_read s z r r+ o =
      let w : Spot = record { x = z.x; y = z.y; r = r; r_above = r+ } in
      in_read d w (s.every_point w (on_said w (corner d i) (corner d j) o))

  pub sight_said : Sight (round d) (corners d) (corner d i) (corner d j) → CentreSees d i j
  sight_said s =
      record {
        every_point = λ z o. in_said d z (s (top z) z.r z.r_above (on_read z (corner d i) (corner d j) o));
      }
