-- Where nothing stands in the way, no side across and no third corner on the segment, strict sight is the two angles:
-- every side passes the segment as 01's first two conditions ask.
use Rattle.std.specs.Prelude.{◌≡◌, refl, ◌⊎◌, ◌↔◌, List, ℕ, ◌<◌, ℤ, pos, ◌≤ℤ◌, ◌<ℤ◌}
use Rattle.std.proofs.Common.{sym, ◌∙◌, ap, subst, inl, inr}
use Rattle.whole.specs.Ring.{ring1}
use Rattle.whole.specs.Order.{Sign, plus, nought, minus, sign, below, ≤ℤ_total}
use Rattle.outline.specs.Drawing.{Point, Shared, turn_of, Simple, corner, corners, after, EndsAt, Angle, Beside}
use Rattle.outline.specs.Drawing.{Sees}
use Rattle.outline.specs.Segments.{exchanged, turned_second, only_first, only_second, one_side, Dot}
use Rattle.outline.specs.Quick.{Touch, quick_complete}
use Rattle.outline.specs.Ends.{OnlyEnd, only_sound}
use Rattle.outline.specs.Against.{aside, aside_right}
use Rattle.outline.specs.Round.{next_below}
use Rattle.outline.specs.Seeing.{Passes, OnlyCorner, one_end, beside_back, clear_sight, sees_of}
use Rattle.outline.specs.Unbroken.{not_all}
use Rattle.outline.specs.Spell.{A, B, C, O, I, env4, TurnE}
use Rattle.outline.specs.Placed.{On, on_turn, dot_on}
use Rattle.outline.specs.Crossing.{Opposite}
use Rattle.outline.specs.Along.{apart_length}
use Rattle.outline.specs.CornersApart.{corners_apart}
use Rattle.outline.specs.Way.{Free}
use Rattle.outline.specs.Compare.{plus_off, minus_off}
use Rattle.outline.specs.Directions.{all_in_line}
use Rattle.outline.specs.Barred.{off_side}

-- ---- how the segments ij and ab meet
-- where a is on the line ij and b is not, what they share is a
lone : (i j a b : Point) → Shared i j b a → turn_of i j a ≡ pos 0 → ¬ (turn_of i j b ≡ pos 0) → On a i j
lone i j a b s on off = go (≤ℤ_total (Dot a i j) (pos 0)) (sign (turn_of i j b))
  where
    go : (Dot a i j ≤ℤ pos 0) ⊎ (pos 0 <ℤ Dot a i j) → Sign (turn_of i j b) → On a i j
    go (inl h) t = dot_on on h
    go (inr h) (plus k) = absurd (aside k on h (exchanged s))
    go (inr h) (minus k) = absurd (aside_right (below k) on h (exchanged s))
    go (inr h) (nought e) = absurd (off e)

-- an end of one lies on the other, or a and b lie on the two sides of ij
abbrev pub Meets : Point → Point → Point → Point → Type 0
Meets i j a b = (On a i j ⊎ On b i j) ⊎ ((On i a b ⊎ On j a b) ⊎ Opposite (turn_of i j a) (turn_of i j b))

pub how_met : (i j a b : Point) → ¬ (i ≡ j) → Shared i j a b → Meets i j a b
how_met i j a b ij s = go (sign (turn_of i j a)) (sign (turn_of i j b))
  where
    flat : turn_of i j a ≡ pos 0 → turn_of i j b ≡ pos 0 → Touch i j a b → Meets i j a b
    flat e f (inl (inl h)) = inl (inl (dot_on e h))
    flat e f (inl (inr h)) = inl (inr (dot_on f h))
    flat e f (inr (inl h)) = inr (inl (inl (dot_on (all_in_line i j a b (apart_length i j ij) e f).0 h)))
    flat e f (inr (inr h)) = inr (inl (inr (dot_on (all_in_line i j a b (apart_length i j ij) e f).1 h)))

    only_a : turn_of i j a ≡ pos 0 → ¬ (turn_of i j b ≡ pos 0) → Meets i j a b
    only_a e n = inl (inl (lone i j a b (turned_second s) e n))

    only_b : turn_of i j b ≡ pos 0 → ¬ (turn_of i j a ≡ pos 0) → Meets i j a b
    only_b e n = inl (inr (lone i j b a s e n))

    go : Sign (turn_of i j a) → Sign (turn_of i j b) → Meets i j a b
    go (plus h) (plus k) = absurd (one_side (inl (h, k)) s)
    go (plus h) (minus k) = inr (inr (inl (h, k)))
    go (plus h) (nought k) = only_b k (plus_off h)
    go (minus h) (plus k) = inr (inr (inr (h, k)))
    go (minus h) (minus k) = absurd (one_side (inr (below h, below k)) s)
    go (minus h) (nought k) = only_b k (minus_off h)
    go (nought h) (plus k) = only_a h (plus_off k)
    go (nought h) (minus k) = only_a h (minus_off k)
    go (nought h) (nought k) = flat h k ((quick_complete s).flat (h ∙ sym k))

-- ---- two segments eo and em, with neither other end on the other segment: on one line they point away from each
-- other, for of three points on a line one lies on the segment of the others
pub away : (e o m : Point) → ¬ On m e o → ¬ On o e m → OnlyEnd e o m
away e o m off_m off_o t = go (≤ℤ_total (Dot e o m) (pos 0)) (≤ℤ_total (Dot o m e) (pos 0))
  where
    go : (Dot e o m ≤ℤ pos 0) ⊎ (pos 0 <ℤ Dot e o m) → (Dot o m e ≤ℤ pos 0) ⊎ (pos 0 <ℤ Dot o m e) →
        Dot e o m ≤ℤ pos 0
    go (inl h) k = h
    go (inr h) (inl k) =
        absurd (off_o (on_turn (dot_on (ring1 (env4 e o m m) (TurnE C A B) O I (TurnE A B C) O t refl) k)))
    go (inr h) (inr k) = absurd (off_m (dot_on t (not_all e o m t h k)))

-- ---- the sides that end at corner i, where no third corner lies on ij
module _ (d : List ℤ) (simple : Simple d) (i j : ℕ) (hi : i < corners d) (hj : j < corners d) (apart : ¬ Beside d i j)
    (no_third : (k : ℕ) → k < corners d → On (corner d k) (corner d i) (corner d j) → (k ≡ i) ⊎ (k ≡ j)) where
  -- the side from i to corner m
  from_i : (m : ℕ) → m < corners d → ¬ (corner d m ≡ corner d i) → ¬ (m ≡ j) →
      ¬ On (corner d j) (corner d i) (corner d m) → OnlyCorner d i i j i m
  from_i m hm mi mj off =
      only_sound (away (corner d i) (corner d j) (corner d m) (λ o. third (no_third m hm o)) off)
    where
      third : (m ≡ i) ⊎ (m ≡ j) → ⊥
      third (inl e) = mi (ap (corner d) e)
      third (inr e) = mj e

  only_at_i : (k : ℕ) → k < corners d → EndsAt d k i → OnlyCorner d i i j k (after d k)
  only_at_i k hk ends = go ends
    where
      not_j : ¬ EndsAt d k j
      not_j = one_end d i j k apart ends

      off : ¬ On (corner d j) (corner d k) (corner d (after d k))
      off = off_side d simple j k hj hk not_j

      go : EndsAt d k i → OnlyCorner d i i j k (after d k)
      go (inl e) =
          subst (λ l. OnlyCorner d i i j l (after d k)) (sym e)
          (from_i (after d k) (next_below (corners d) k hk) (λ q. simple.two_ends k hk (ap (corner d) e ∙ sym q))
          (λ q. not_j (inr q))
          (λ o. off (subst (λ l. On (corner d j) (corner d l) (corner d (after d k))) (sym e) o)))
      go (inr e) =
          subst (OnlyCorner d i i j k) (sym e)
          (only_second (from_i k hk (λ q. simple.two_ends k hk (q ∙ ap (corner d) (sym e))) (λ q. not_j (inl q))
          (λ o. off (on_turn (subst (λ l. On (corner d j) (corner d l) (corner d k)) (sym e) o)))))

-- ---- all sides
module _ (d : List ℤ) (simple : Simple d) (i j : ℕ) (hi : i < corners d) (hj : j < corners d) (apart : ¬ Beside d i j)
    (free : Free d i j) where
  other_side : (k : ℕ) → k < corners d → ¬ EndsAt d k i → ¬ EndsAt d k j →
      ¬ Shared (corner d i) (corner d j) (corner d k) (corner d (after d k))
  other_side k hk not_i not_j s =
      go (how_met (corner d i) (corner d j) (corner d k) (corner d (after d k))
      (corners_apart d simple i j hi hj (λ e. apart (inl e))) s)
    where
      third : {m : ℕ} → ((m ≡ i) → EndsAt d k i) → ((m ≡ j) → EndsAt d k j) → (m ≡ i) ⊎ (m ≡ j) → ⊥
      third f g (inl e) = not_i (f e)
      third f g (inr e) = not_j (g e)

      go : Meets (corner d i) (corner d j) (corner d k) (corner d (after d k)) → ⊥
      go (inl (inl o)) = third (λ e. inl e) (λ e. inl e) ((free k hk).no_third o)
      go (inl (inr o)) =
          third (λ e. inr e) (λ e. inr e) ((free (after d k) (next_below (corners d) k hk)).no_third o)
      go (inr (inl (inl o))) = off_side d simple i k hi hk not_i o
      go (inr (inl (inr o))) = off_side d simple j k hj hk not_j o
      go (inr (inr x)) = (free k hk).uncrossed (record { ends = x; meets = s })

  pub free_passes : (k : ℕ) → k < corners d → Passes d i j k
  free_passes k hk = record {
    other = other_side k hk;
    ends_at_i = λ e. only_at_i d simple i j hi hj apart (λ m h. (free m h).no_third) k hk e;
    ends_at_j = λ e. only_first
        (only_at_i d simple j i hj hi (λ b. apart (beside_back d j i b))
        (λ m h o. swap ((free m h).no_third (on_turn o))) k hk e);
  }
    where
      swap : {X Y : Type 0} → X ⊎ Y → Y ⊎ X
      swap (inl x) = inr x
      swap (inr y) = inl y

  -- strict sight is the two angles
  pub free_sight : (Angle d i j × Angle d j i) ↔ Sees d i j
  free_sight = (
    λ a. sees_of a.0 a.1 free_passes,
    λ s. let c = clear_sight apart s in (c.angle_at_i, c.angle_at_j),
  )
