-- In a simple drawing two corners that are inside each other's angles see each other where no open side hides one from
-- the other.
use Rattle.std.specs.Prelude.{◌≡◌, refl, ◌⊎◌, List, ℕ, ◌<◌, ℤ, pos, ◌≤ℤ◌, ◌<ℤ◌}
use Rattle.std.proofs.Common.{sym, ap, ◌∙◌, subst, inl, inr}
use Rattle.std.proofs.Math.Logic.{by_cases}
use Rattle.std.proofs.Math.Decide.{ℕ_discrete}
use Rattle.std.specs.Int.Signed.{<ℤ_irrefl, clash_ℤ}
use Rattle.whole.specs.Ring.{ring}
use Rattle.whole.specs.Order.{Positive, Sign, plus, nought, minus, sign, below, <ℤ_le, ≤ℤ_total}
use Rattle.outline.specs.Drawing.{corner, corners, prev, after, Simple, Sound, EndsAt, Angle, Beside, Sees}
use Rattle.outline.specs.Segments.{exchanged, turned_first, OneSide, one_side, Dot}
use Rattle.drawing.specs.Meeting.{Reached}
use Rattle.outline.specs.Ends.{OnlyEnd, only_sound}
use Rattle.outline.specs.Spell.{A, B, O, env4, TurnE}
use Rattle.outline.specs.Round.{prev_next}
use Rattle.outline.specs.Seeing.{begins_at_i, ends_at_i, begins_at_j, ends_at_j, ends_at_neither}
use Rattle.outline.specs.Seeing.{Passes, OnlyCorner, sees_of, beside_or}
use Rattle.outline.specs.Against.{aside, aside_right, angle_ends}
use Rattle.outline.specs.Placed.{dot_on}
use Rattle.outline.specs.Barred.{off_side}
use Rattle.drawing.specs.Known.{side_turn, Left, Right, Open, Hides}

module _ (d : List ℤ) where
  -- ---- an end of a side lies neither left nor right of it
  pub at_own : (i k : ℕ) → EndsAt d k i → side_turn d i k ≡ pos 0
  at_own i k (inl e) =
      subst (λ m. side_turn d m k ≡ pos 0) e
      (ring (env4 (corner d k) (corner d (after d k)) (corner d k) (corner d k)) (TurnE A B A) O refl)
  at_own i k (inr e) =
      subst (λ m. side_turn d m k ≡ pos 0) e
      (ring (env4 (corner d k) (corner d (after d k)) (corner d k) (corner d k)) (TurnE A B B) O refl)

  pub left_no_end : (i k : ℕ) → Left d i k → ¬ EndsAt d k i
  left_no_end i k h e = <ℤ_irrefl (subst Positive (at_own i k e) h)

  pub right_no_end : (i k : ℕ) → Right d i k → ¬ EndsAt d k i
  right_no_end i k h e = <ℤ_irrefl (subst (λ z. z <ℤ pos 0) (at_own i k e) h)

  -- an open side ends at neither corner
  pub open_ends : (i j k : ℕ) → Open d i j k → (¬ EndsAt d k i) × (¬ EndsAt d k j)
  open_ends i j k (inl (inl h)) = (left_no_end i k h.0, right_no_end j k h.1)
  open_ends i j k (inl (inr h)) = (right_no_end i k h.0, left_no_end j k h.1)
  open_ends i j k (inr h) = (h.0.1, h.1.1)

  -- and its line does not have both corners on one side
  pub open_reached : (i j k : ℕ) → Open d i j k →
      Reached (corner d i) (corner d j) (corner d k) (corner d (after d k))
  open_reached i j k o = record { not_aside = none o }
    where
      none : Open d i j k → ¬ OneSide (side_turn d i k) (side_turn d j k)
      none (inl (inl h)) (inl s) = clash_ℤ s.1 (<ℤ_le h.1)
      none (inl (inl h)) (inr s) = clash_ℤ s.0 (<ℤ_le h.0)
      none (inl (inr h)) (inl s) = clash_ℤ s.0 (<ℤ_le h.0)
      none (inl (inr h)) (inr s) = clash_ℤ s.1 (<ℤ_le h.1)
      none (inr h) (inl s) = <ℤ_irrefl (subst Positive h.0.0 s.0)
      none (inr h) (inr s) = <ℤ_irrefl (subst (λ z. z <ℤ pos 0) h.0.0 s.0)

-- ---- a side that is not open and ends at neither corner shares nothing with ij
module _ (d : List ℤ) (simple : Simple d) where
  -- a corner on the line of a side that does not end there is off the side
  off_line : (i k : ℕ) → i < corners d → k < corners d → ¬ EndsAt d k i → side_turn d i k ≡ pos 0 →
      Positive (Dot (corner d i) (corner d k) (corner d (after d k)))
  off_line i k hi hk n e = go (≤ℤ_total (Dot (corner d i) (corner d k) (corner d (after d k))) (pos 0))
    where
      go : (Dot (corner d i) (corner d k) (corner d (after d k)) ≤ℤ pos 0) ⊎
          Positive (Dot (corner d i) (corner d k) (corner d (after d k))) →
          Positive (Dot (corner d i) (corner d k) (corner d (after d k)))
      go (inl h) = absurd (off_side d simple i k hi hk n (dot_on e h))
      go (inr h) = h

  closed : (i j k : ℕ) → i < corners d → j < corners d → k < corners d → ¬ EndsAt d k i → ¬ EndsAt d k j →
      ¬ Open d i j k → ¬ Hides d i j k
  closed i j k hi hj hk ei ej n s = go (sign (side_turn d i k)) (sign (side_turn d j k))
    where
      go : Sign (side_turn d i k) → Sign (side_turn d j k) → ⊥
      go (plus x) (plus y) = one_side (inl (x, y)) (exchanged s)
      go (plus x) (nought y) = aside x y (off_line j k hj hk ej y) s
      go (plus x) (minus y) = n (inl (inl (x, below y)))
      go (nought x) (plus y) = aside y x (off_line i k hi hk ei x) (turned_first s)
      go (nought x) (nought y) = n (inr ((x, ei), (y, ej)))
      go (nought x) (minus y) = aside_right (below y) x (off_line i k hi hk ei x) (turned_first s)
      go (minus x) (plus y) = n (inl (inr (below x, y)))
      go (minus x) (nought y) = aside_right (below x) y (off_line j k hj hk ej y) s
      go (minus x) (minus y) = one_side (inr (below x, below y)) (exchanged s)

  -- ---- the sides at i and j pass because of the angles, those that are not open by the law above, the others by the
  -- look
  passes_by : (i j k : ℕ) → i < corners d → j < corners d → k < corners d → ¬ Beside d i j → Angle d i j →
      Angle d j i → (Open d i j k → ¬ Hides d i j k) → Passes d i j k
  passes_by i j k hi hj l apart f g look =
      by_cases (ℕ_discrete k i)
      (λ e. (begins_at_i apart e).0 (subst Ends (ap (after d) (sym e)) (only_sound at_i.1)))
      (λ n1. by_cases (ℕ_discrete (after d k) i)
      (λ e. (ends_at_i apart e).0 (subst Ends (back k i l e) (only_sound at_i.0)))
      (λ n2. by_cases (ℕ_discrete k j)
      (λ e. (begins_at_j apart e).0 (subst Ends' (ap (after d) (sym e)) (only_sound at_j.1)))
      (λ n3. by_cases (ℕ_discrete (after d k) j)
      (λ e. (ends_at_j apart e).0 (subst Ends' (back k j l e) (only_sound at_j.0)))
      (λ n4. (ends_at_neither n1 n2 n3 n4).0
      (λ s. closed i j k hi hj l (none n1 n2) (none n3 n4) (λ o. look o s) s)))))
    where
      Ends : ℕ → Type 0
      Ends m = OnlyCorner d i i j i m

      Ends' : ℕ → Type 0
      Ends' m = OnlyCorner d j j i j m

      at_i : OnlyEnd (corner d i) (corner d j) (corner d (prev (corners d) i))
          × OnlyEnd (corner d i) (corner d j) (corner d (after d i))
      at_i = angle_ends (corner d (prev (corners d) i)) (corner d i) (corner d (after d i)) (corner d j) f

      at_j : OnlyEnd (corner d j) (corner d i) (corner d (prev (corners d) j))
          × OnlyEnd (corner d j) (corner d i) (corner d (after d j))
      at_j = angle_ends (corner d (prev (corners d) j)) (corner d j) (corner d (after d j)) (corner d i) g

      back : (k m : ℕ) → k < corners d → after d k ≡ m → prev (corners d) m ≡ k
      back k m l e = ap (prev (corners d)) (sym e) ∙ prev_next (corners d) k l

      none : {m : ℕ} → ¬ (k ≡ m) → ¬ (after d k ≡ m) → ¬ EndsAt d k m
      none x y (inl e) = x e
      none x y (inr e) = y e

  -- ---- sight; neighbours see each other anyhow
  sees_by : (i j : ℕ) → i < corners d → j < corners d → ¬ Beside d i j → Angle d i j → Angle d j i →
      ((k : ℕ) → k < corners d → Open d i j k → ¬ Hides d i j k) → Sees d i j
  sees_by i j hi hj apart f g look = sees_of f g (λ k l. passes_by i j k hi hj l apart f g (look k l))

pub seen_clear : (d : List ℤ) → Sound d → (i j : ℕ) → i < corners d → j < corners d → Angle d i j → Angle d j i →
    ((k : ℕ) → k < corners d → Open d i j k → ¬ Hides d i j k) → Sees d i j
seen_clear d sound i j hi hj f g look = go (beside_or d i j)
  where
    go : Beside d i j ⊎ (¬ Beside d i j) → Sees d i j
    go (inl b) = record { sees = inl b }
    go (inr n) = sees_by d sound.simple i j hi hj n f g look
