-- What an open side tells of both kinds of sight where the segment ij meets it: across it, neither corner sees the
-- other, by either kind; touched, one of its ends is a third corner on the segment. And of a corner on the line of a
-- side, which end of the side lies between it and the other.
use Rattle.std.specs.Prelude.{◌≡◌, refl, ◌⊎◌, List, [], ◌∷◌, ℕ, ◌<◌, ℤ, pos, neg_ℤ, ◌≤ℤ◌, ◌<ℤ◌}
use Rattle.std.proofs.Common.{sym, ap, subst, inl, inr, arith}
use Rattle.std.specs.Int.Signed.{≤ℤ_refl}
use Rattle.whole.specs.Ring.{v, con, ◌:-◌, neg, ring, ring1, by_ring}
use Rattle.whole.specs.Order.{Positive, lt_sub}
use Rattle.outline.specs.Drawing.{Point, Simple, corner, corners, after, EndsAt, Angle}
use Rattle.outline.specs.InOrOn.{CentreSees}
use Rattle.outline.specs.Tells.{decided}
use Rattle.outline.specs.Segments.{Apart, Dot}
use Rattle.outline.specs.Spell.{A, B, C, O, I, env4, TurnE, DotE}
use Rattle.outline.specs.Against.{no_angle}
use Rattle.outline.specs.Round.{next_below}
use Rattle.outline.specs.Placed.{on_turn, dot_on}
use Rattle.outline.specs.OnTest.{on_tells}
use Rattle.outline.specs.Crossing.{Opposite}
use Rattle.outline.proofs.CentreMiddle.{sees_clear}
use Rattle.outline.specs.Way.{GrazedBy}
use Rattle.outline.proofs.Third.{first_shorter}
use Rattle.outline.specs.Barred.{off_side, apart_of}
use Rattle.outline.specs.FreeSight.{Meets, how_met, away}
use Rattle.drawing.specs.Known.{LiesOn, Along, MeetsSide, TouchedSide}
use Rattle.drawing.specs.Looking.{open_ends}
use Rattle.drawing.specs.declared.segment.Met.TheVariants as is

-- the turns of a side that is met across, in the words of the law for centres
above : {z : ℤ} → z <ℤ pos 0 → Positive (neg_ℤ z)
above {z} h = by_ring (z ∷ []) Positive (con (pos 0) :- v 0) (neg (v 0)) refl (lt_sub h)

opposite : {s t : ℤ} → Apart s t → Opposite s t
opposite (inl h) = inl (h.0, above h.1)
opposite (inr h) = inr (above h.0, h.1)

-- a corner inside the angle at i is not at i
pub inside_apart : (d : List ℤ) (i j : ℕ) → Angle d i j → ¬ (corner d i ≡ corner d j)
inside_apart d i j a e =
    no_angle _ (corner d i) _ (corner d j) (subst (λ c. Dot (corner d i) c c ≤ℤ pos 0) e (nothing (corner d i))) a
  where
    nothing : (c : Point) → Dot c c c ≤ℤ pos 0
    nothing c = subst (λ z. z ≤ℤ pos 0) (sym (ring (env4 c c c c) (DotE A A A) O refl)) (≤ℤ_refl (pos 0))

module _ (d : List ℤ) (simple : Simple d) (i j k : ℕ) (hi : i < corners d) (hj : j < corners d) (hk : k < corners d)
  where
    -- ---- across
    pub crossed_by : MeetsSide d i j k is.Crossed → ¬ (corner d i ≡ corner d j) → ¬ CentreSees d i j
    crossed_by m n s =
        sees_clear d simple i j hi hj (λ e. n (ap (corner d) e)) s k hk
        (record { ends = opposite m.1; meets = m.0 })

    -- ---- touched
    module _ (t : TouchedSide d i j k) where
      not_i : ¬ EndsAt d k i
      not_i = (open_ends d i j k t.is_open).0

      not_j : ¬ EndsAt d k j
      not_j = (open_ends d i j k t.is_open).1

      pub touched_here : LiesOn d k i j → GrazedBy d i j k
      touched_here o = record { below = hk; not_i = λ e. not_i (inl e); not_j = λ e. not_j (inl e); on = o }

      -- not at the first end: at the other, since no corner lies on the side and it is not met across
      pub touched_there : ¬ LiesOn d k i j → GrazedBy d i j (after d k)
      touched_there n = record {
        below = next_below (corners d) k hk;
        not_i = λ e. not_i (inr e);
        not_j = λ e. not_j (inr e);
        on = go (how_met _ _ _ _ t.differ t.touches.0);
      }
        where
          go : Meets (corner d i) (corner d j) (corner d k) (corner d (after d k)) → LiesOn d (after d k) i j
          go (inl (inl o)) = absurd (n o)
          go (inl (inr o)) = o
          go (inr (inl (inl o))) = absurd (off_side d simple i k hi hk not_i o)
          go (inr (inl (inr o))) = absurd (off_side d simple j k hj hk not_j o)
          go (inr (inr x)) = absurd (t.touches.1 (apart_of x))

-- ---- a corner i on the line of side k, and no end of it
module _ (d : List ℤ) (simple : Simple d) (i k : ℕ) (hi : i < corners d) (hk : k < corners d) (a : Along d i k) where
  hm : after d k < corners d
  hm = next_below (corners d) k hk

  k≠m : ¬ (k ≡ after d k)
  k≠m e = simple.two_ends k hk (ap (corner d) e)

  -- its first end lies between i and the other
  pub first_between : LiesOn d k i (after d k) → GrazedBy d i (after d k) k
  first_between o = record { below = hk; not_i = λ e. a.1 (inl e); not_j = k≠m; on = o }

  -- or else the other between i and the first
  pub other_between : ¬ LiesOn d k i (after d k) → GrazedBy d i k (after d k)
  other_between n = record {
    below = hm;
    not_i = λ e. a.1 (inr e);
    not_j = λ e. k≠m (sym e);
    on = on_turn (go (decided (on_tells (corner d (after d k)) (corner d k) (corner d i))));
  }
    where
      Between : Type 0
      Between = LiesOn d (after d k) k i

      go : Between ⊎ (¬ Between) → Between
      go (inl o) = o
      go (inr x) =
          let h = away (corner d k) (corner d i) (corner d (after d k)) x (off_side d simple i k hi hk a.1) in
          absurd (n (dot_on (ring1 ρ (TurnE C B A) O (neg I) (TurnE A B C) O a.0 refl)
          (h (ring1 ρ (TurnE A C B) O (neg I) (TurnE A B C) O a.0 refl))))
        where
          ρ : List ℤ
          ρ = env4 (corner d k) (corner d (after d k)) (corner d i) (corner d i)

  -- a line of sight that begins with side k begins at the far end
  pub far_first : LiesOn d k i (after d k) → ¬ LiesOn d (after d k) k i
  far_first o q =
      let near = first_shorter d simple i (after d k) k hi hm (first_between o) in
      let far = first_shorter d simple i k (after d k) hi hk
      (record { below = hm; not_i = λ e. a.1 (inr e); not_j = λ e. k≠m (sym e); on = on_turn q }) in
      omega (arith, near, far)
