-- The theorems of `Begins`: its definitions and first laws are in specs/.
use Rattle.std.specs.Prelude.{◌≡◌, refl, not, ◌⊎◌, List, ℕ, ◌<◌, ℤ}
use Rattle.std.proofs.Common.{sym, ◌∙◌, ap, subst, inl, inr}
use Rattle.std.proofs.lemmas.Bool.{false≢true}
use Rattle.whole.specs.Order.{Positive}
use Rattle.outline.specs.Drawing.{Sound, corner, corners, after, prev, EndsAt, Angle, Beside}
use Rattle.outline.specs.InOrOn.{Spot, CentreSees}
use Rattle.outline.specs.Tells.{decided}
use Rattle.outline.specs.Ends.{OnlyEnd}
use Rattle.outline.specs.Round.{prev_below, next_prev}
use Rattle.outline.specs.Placed.{On, on_turn}
use Rattle.outline.specs.OnTest.{on_tells}
use Rattle.outline.specs.Parity.{odd, large, InOn}
use Rattle.outline.specs.Near.{near}
use Rattle.outline.specs.Reading.{round}
use Rattle.outline.proofs.Reading.{in_read}
use Rattle.outline.specs.Ray.{above_one}
use Rattle.outline.specs.CornersApart.{corners_apart}
use Rattle.outline.specs.Barred.{off_side}
use Rattle.outline.specs.FreeSight.{away}
use Rattle.outline.specs.CornerTells.{Verdict, within, without, Close}
use Rattle.outline.specs.AtCorner.{left_of, at_corner}
use Rattle.outline.specs.LeftIn.{left_in}
use Rattle.outline.specs.Begins.{Begins, near_spot, on_near}

-- ---- along neither side at i: close to i one is in the drawing exactly inside the angle
seen_inside : (d : List ℤ) (sound : Sound d) (i j : ℕ) → i < corners d → ¬ (corner d i ≡ corner d j) →
    OnlyEnd (corner d i) (corner d j) (corner d (after d i)) →
    OnlyEnd (corner d i) (corner d j) (corner d (prev (corners d) i)) → CentreSees d i j → Angle d i j
unfolding near_spot
seen_inside d sound i j hi apart off_after off_before s =
    go (at_corner d sound.simple i hi (corner d j) apart off_after off_before)
  where
    go : Close (round d) (corners d) (left_of d 0) (corner d (prev (corners d) i)) (corner d i) (corner d (after d i))
        (corner d j) → Angle d i j
    go c = at c.told (in_read d z (s.every_point z (on_near (corner d i) (corner d j) c.K K+ c.K-big)))
      where
        K+ : Positive c.K
        K+ = above_one c.K c.K-big

        z : Spot
        z = near_spot (corner d i) (corner d j) c.K K+

        at : Verdict (left_of d 0) (Angle d i j)
            (odd (large c.K (round d)) (near (corner d i) c.K (corner d j)) (corners d)) →
            InOn (large c.K (round d)) (corners d) (near (corner d i) c.K (corner d j)) → Angle d i j
        at (within a e) h = a
        at (without a e) (inl h) = absurd (c.on_no_side h)
        at (without a e) (inr h) = absurd (false≢true (sym (e ∙ ap not (left_in d sound)) ∙ h))

module _ (d : List ℤ) (sound : Sound d) (i j : ℕ) (hi : i < corners d) (hj : j < corners d)
    (apart : ¬ Beside d i j) where
  abbrev before : ℕ
  before = prev (corners d) i

  before_below : prev (corners d) i < corners d
  before_below = prev_below (corners d) i hi

  at_i : after d before ≡ i
  at_i = next_prev (corners d) i hi

  -- j is on neither side at i
  off_after : ¬ On (corner d j) (corner d i) (corner d (after d i))
  off_after = off_side d sound.simple j i hj hi ends
    where
      ends : ¬ EndsAt d i j
      ends (inl e) = apart (inl e)
      ends (inr e) = apart (inr (inl e))

  off_before : ¬ On (corner d j) (corner d i) (corner d before)
  off_before o =
      off_side d sound.simple j before hj before_below ends
      (on_turn (subst (λ m. On (corner d j) (corner d m) (corner d before)) (sym at_i) o))
    where
      ends : ¬ EndsAt d before j
      ends (inl e) = apart (inr (inr (ap (after d) (sym e) ∙ at_i)))
      ends (inr e) = apart (inl (sym at_i ∙ e))

  -- a side at i shares only i with the segment, or its end lies on it
  only_or : (m : ℕ) → ¬ On (corner d j) (corner d i) (corner d m) →
      OnlyEnd (corner d i) (corner d j) (corner d m) ⊎ On (corner d m) (corner d i) (corner d j)
  only_or m off = go (decided (on_tells (corner d m) (corner d i) (corner d j)))
    where
      go : On (corner d m) (corner d i) (corner d j) ⊎ (¬ On (corner d m) (corner d i) (corner d j)) →
          OnlyEnd (corner d i) (corner d j) (corner d m) ⊎ On (corner d m) (corner d i) (corner d j)
      go (inl o) = inr o
      go (inr n) = inl (away (corner d i) (corner d j) (corner d m) n off)

  pub inside_or_along : CentreSees d i j → Angle d i j ⊎ Begins d i j
  inside_or_along s = go (only_or (after d i) off_after) (only_or before off_before)
    where
      differ : ¬ (corner d i ≡ corner d j)
      differ = corners_apart d sound.simple i j hi hj (λ e. apart (inl e))

      go : OnlyEnd (corner d i) (corner d j) (corner d (after d i)) ⊎
          On (corner d (after d i)) (corner d i) (corner d j) →
          OnlyEnd (corner d i) (corner d j) (corner d before) ⊎ On (corner d before) (corner d i) (corner d j) →
          Angle d i j ⊎ Begins d i j
      go (inr o) y = inr (record { side = i; end = after d i; below = hi; joins = inl (refl, refl); on = o })
      go (inl x) (inr o) =
          inr (record { side = before; end = before; below = before_below; joins = inr (refl, at_i); on = o })
      go (inl x) (inl y) = inl (seen_inside d sound i j hi differ x y s)
