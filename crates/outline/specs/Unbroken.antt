-- No corner of a simple drawing stands on the line between two others that see each other; so three corners that see
-- each other make an area.
use Rattle.std.specs.Prelude.{◌≡◌, refl, ◌⊎◌, List, ℕ, ◌<◌, ℤ, pos, ◌≤ℤ◌, ◌<ℤ◌}
use Rattle.std.proofs.Common.{sym, ap, ◌∙◌, subst, inl, inr}
use Rattle.std.proofs.Math.Decide.{ℕ_discrete}
use Rattle.std.specs.Int.Signed.{clash_ℤ}
use Rattle.whole.specs.Ring.{◌:-◌, ◌:*◌, ring1}
use Rattle.whole.specs.Order.{Nonneg, Positive, nonneg_mul, positive_mul, sub_le, <ℤ_le, ≤ℤ_total}
use Rattle.outline.specs.Drawing.{Point, turn_of, corner, corners, after, Simple, Beside, Clear, Sees}
use Rattle.outline.specs.InOrOn.{spot, OnSegment}
use Rattle.outline.specs.OnSegment.{on_turned, on_shared, only_same, on_of}
use Rattle.outline.specs.Segments.{Dot, dot_nonneg, only_exchanged}
use Rattle.outline.specs.Seeing.{OnlyCorner, no_end}
use Rattle.outline.specs.Spell.{A, B, C, O, I, env4, TurnE, DotE}

module _ (d : List ℤ) (s : Simple d) where
  abbrev On : ℕ → ℕ → ℕ → Type 0
  On z x y = OnSegment (spot (corner d z)) (corner d x) (corner d y)

  -- two neighbours are two points
  apart : (z x : ℕ) → z < corners d → after d z ≡ x → corner d z ≡ corner d x → ⊥
  apart z x h e q = s.two_ends z h (q ∙ ap (corner d) (sym e))

  -- xy is a side
  on_side : (x y z : ℕ) → x < corners d → z < corners d → after d x ≡ y → ¬ (z ≡ x) → ¬ (z ≡ y) → ¬ On z x y
  on_side x y z hx hz e zx zy o = go (ℕ_discrete (after d z) x)
    where
      o' : On z x (after d x)
      o' = subst (On z x) (sym e) o

      go : Dec (after d z ≡ x) → ⊥
      go (yes q) =
          apart z x hz q
          (only_same (corner d x) o'
          (only_exchanged (subst (λ k. OnlyCorner d k z k k (after d k)) q (s.neighbours z hz))))
      go (no q) = s.others x z hx hz (λ p. zx (sym p)) (λ p. zy (sym p ∙ e)) q (on_shared o' (corner d (after d z)))

  on_clear : (x y z : ℕ) → z < corners d → Clear d x y → ¬ (z ≡ x) → ¬ (z ≡ y) → ¬ On z x y
  on_clear x y z hz k zx zy o = go (ℕ_discrete (after d z) x) (ℕ_discrete (after d z) y)
    where
      go : Dec (after d z ≡ x) → Dec (after d z ≡ y) → ⊥
      go (yes e) t = apart z x hz e (only_same (corner d (after d z)) o (k.ends_at_i z hz (inr e)))
      go (no f) (yes e) = apart z y hz e (only_same (corner d (after d z)) o (k.ends_at_j z hz (inr e)))
      go (no f) (no g) = k.others z hz (no_end d zx f) (no_end d zy g) (on_shared o (corner d (after d z)))

  pub none_between : (x y z : ℕ) → x < corners d → y < corners d → z < corners d → ¬ (x ≡ y) → Sees d x y →
      ¬ (z ≡ x) → ¬ (z ≡ y) → ¬ On z x y
  none_between x y z hx hy hz xy h zx zy o = go h.sees
    where
      go : Beside d x y ⊎ Clear d x y → ⊥
      go (inl (inl e)) = xy e
      go (inl (inr (inl e))) = on_side x y z hx hz e zx zy o
      go (inl (inr (inr e))) = on_side y x z hy hz e zy zx (on_turned o)
      go (inr k) = on_clear x y z hz k zx zy o

-- ---- of three points on one line, one lies on the segment of the others with p as origin: (p . q)(q . s) + |pq|^2 (s
-- . p) is the square of the turn; so not all three products are above zero
pub not_all : (p q s : Point) → turn_of p q s ≡ pos 0 → Positive (Dot p q s) → Positive (Dot q s p) →
    Dot s p q ≤ℤ pos 0
not_all p q s t h k = go (≤ℤ_total (Dot s p q) (pos 0))
  where
    go : (Dot s p q ≤ℤ pos 0) ⊎ (pos 0 <ℤ Dot s p q) → Dot s p q ≤ℤ pos 0
    go (inl l) = l
    go (inr l) =
        absurd (clash_ℤ (positive_mul h k) (sub_le (subst Nonneg
        (ring1 (env4 p q s s) (DotE A B B :* DotE C A B) (O :- DotE A B C :* DotE B C A) (TurnE A B C) (TurnE A B C) O
        t refl)
        (nonneg_mul (dot_nonneg p q) (<ℤ_le l)))))

-- which of them
data Somewhere (p q s : Point) : Type 0 where
  at_p : OnSegment (spot p) q s → Somewhere p q s
  at_q : OnSegment (spot q) s p → Somewhere p q s
  at_s : OnSegment (spot s) p q → Somewhere p q s

in_line : (p q s : Point) → turn_of p q s ≡ pos 0 → Somewhere p q s
in_line p q s t = go (≤ℤ_total (Dot p q s) (pos 0)) (≤ℤ_total (Dot q s p) (pos 0))
  where
    go : (Dot p q s ≤ℤ pos 0) ⊎ (pos 0 <ℤ Dot p q s) → (Dot q s p ≤ℤ pos 0) ⊎ (pos 0 <ℤ Dot q s p) → Somewhere p q s
    go (inl h) k = at_p (on_of (ring1 (env4 p q s s) (TurnE B C A) O I (TurnE A B C) O t refl) h)
    go (inr h) (inl k) = at_q (on_of (ring1 (env4 p q s s) (TurnE C A B) O I (TurnE A B C) O t refl) k)
    go (inr h) (inr k) = at_s (on_of t (not_all p q s t h k))

pub seen_area : (d : List ℤ) → Simple d → (x y z : ℕ) → x < corners d → y < corners d → z < corners d →
    ¬ (x ≡ y) → ¬ (y ≡ z) → ¬ (z ≡ x) → Sees d x y → Sees d y z → Sees d z x →
    ¬ (turn_of (corner d x) (corner d y) (corner d z) ≡ pos 0)
seen_area d s x y z hx hy hz xy yz zx f g h e = go (in_line (corner d x) (corner d y) (corner d z) e)
  where
    go : Somewhere (corner d x) (corner d y) (corner d z) → ⊥
    go (at_p o) = none_between d s y z x hy hz hx yz g xy (λ p. zx (sym p)) o
    go (at_q o) = none_between d s z x y hz hx hy zx h yz (λ p. xy (sym p)) o
    go (at_s o) = none_between d s x y z hx hy hz xy f zx (λ p. yz (sym p)) o
