-- Lines between corners on which no other corner stands, such as lines of strict sight: two of them that have two
-- different points in common are the same line, with both corners in common. So none has only a part of another.
use Rattle.std.specs.Prelude.{◌≡◌, ◌⊎◌, List, ℕ, ◌<◌, ℤ}
use Rattle.std.proofs.Common.{sym, subst, inl, inr}
use Rattle.std.proofs.Math.Decide.{ℕ_discrete}
use Rattle.outline.specs.Drawing.{corner, corners}
use Rattle.outline.specs.InOrOn.{Spot, spot, OnSegment}
use Rattle.outline.specs.OnSegment.{on_turned}
use Rattle.outline.specs.TwoPoints.{Differ, same_end, some_end}

-- two corners with none between them
pub record ClearLine (d : List ℤ) (x y : ℕ) : Type 0 where
  pub x_below : x < corners d
  pub y_below : y < corners d
  pub apart : ¬ (x ≡ y)
  pub clear : (k : ℕ) → k < corners d → ¬ (k ≡ x) → ¬ (k ≡ y) →
      ¬ OnSegment (spot (corner d k)) (corner d x) (corner d y)

pub line_back : (d : List ℤ) (x y : ℕ) → ClearLine d x y → ClearLine d y x
line_back d x y l = record {
  x_below = l.y_below;
  y_below = l.x_below;
  apart = λ e. l.apart (sym e);
  clear = λ k h p q o. l.clear k h q p (on_turned o);
}

module _ (d : List ℤ) (z w : Spot) (f : Differ z w) where
  -- both points are on their line
  abbrev pub Has : ℕ → ℕ → Type 0
  Has x y = OnSegment z (corner d x) (corner d y) × OnSegment w (corner d x) (corner d y)

  back : (x y : ℕ) → Has x y → Has y x
  back x y h = (on_turned h.0, on_turned h.1)

  -- corner k is on it
  abbrev At : ℕ → ℕ → ℕ → Type 0
  At k x y = OnSegment (spot (corner d k)) (corner d x) (corner d y)

  an_end : (x y k : ℕ) → ClearLine d x y → k < corners d → At k x y → (k ≡ x) ⊎ (k ≡ y)
  an_end x y k l h o = go (ℕ_discrete k x) (ℕ_discrete k y)
    where
      go : Dec (k ≡ x) → Dec (k ≡ y) → (k ≡ x) ⊎ (k ≡ y)
      go (yes e) t = inl e
      go (no n) (yes e) = inr e
      go (no n) (no m) = absurd (l.clear k h n m o)

  from_one : (x y u : ℕ) → ClearLine d x y → ClearLine d x u → Has x y → Has x u → y ≡ u
  from_one x y u l m h k = go (same_end z w f (corner d x) (corner d y) (corner d u) h.0 h.1 k.0 k.1)
    where
      first : (y ≡ x) ⊎ (y ≡ u) → y ≡ u
      first (inl e) = absurd (l.apart (sym e))
      first (inr e) = e

      second : (u ≡ x) ⊎ (u ≡ y) → y ≡ u
      second (inl e) = absurd (m.apart (sym e))
      second (inr e) = sym e

      go : At y x u ⊎ At u x y → y ≡ u
      go (inl o) = first (an_end x u y m l.y_below o)
      go (inr o) = second (an_end x y u l m.y_below o)

  abbrev pub SameEnds : ℕ → ℕ → ℕ → ℕ → Type 0
  SameEnds x y u t = ((u ≡ x) × (t ≡ y)) ⊎ ((u ≡ y) × (t ≡ x))

  module _ (x y u t : ℕ) (l : ClearLine d x y) (m : ClearLine d u t) (h : Has x y) (k : Has u t) where
    first_first : u ≡ x → SameEnds x y u t
    first_first e = inl (e, sym (from_one x y t l (subst (λ i. ClearLine d i t) e m) h (subst (λ i. Has i t) e k)))

    first_second : u ≡ y → SameEnds x y u t
    first_second e =
        inr (
          e,
          sym (from_one y x t (line_back d x y l) (subst (λ i. ClearLine d i t) e m) (back x y h)
              (subst (λ i. Has i t) e k)),
        )

    second_first : t ≡ x → SameEnds x y u t
    second_first e =
        inr (
          sym (from_one x y u l (subst (λ i. ClearLine d i u) e (line_back d u t m)) h
              (subst (λ i. Has i u) e (back u t k))),
          e,
        )

    second_second : t ≡ y → SameEnds x y u t
    second_second e =
        inl (
          sym (from_one y x u (line_back d x y l) (subst (λ i. ClearLine d i u) e (line_back d u t m)) (back x y h)
              (subst (λ i. Has i u) e (back u t k))),
          e,
        )

    pub one_line : SameEnds x y u t
    one_line = go (some_end z w f (corner d x) (corner d y) (corner d u) (corner d t) h.0 h.1 k.0 k.1)
      where
        meet : {A B : Type 0} → (A → SameEnds x y u t) → (B → SameEnds x y u t) → A ⊎ B → SameEnds x y u t
        meet g i (inl a) = g a
        meet g i (inr b) = i b

        go : (At u x y ⊎ At t x y) ⊎ (At x u t ⊎ At y u t) → SameEnds x y u t
        go (inl (inl o)) = meet first_first first_second (an_end x y u l m.x_below o)
        go (inl (inr o)) = meet second_first second_second (an_end x y t l m.y_below o)
        go (inr (inl o)) = meet (λ e. first_first (sym e)) (λ e. second_first (sym e)) (an_end u t x m l.x_below o)
        go (inr (inr o)) =
            meet (λ e. first_second (sym e)) (λ e. second_second (sym e)) (an_end u t y m l.y_below o)
