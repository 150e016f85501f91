-- The places of a side in all rows add up to its part of the doubled area: (b.y - a.y)(a.x + b.x), D times. Row by
-- row, `part u` is what the rows below height u have.
use Rattle.std.specs.Prelude.{◌≡◌, refl, cond, ◌⊎◌, List, [], ◌∷◌, ℤ, pos, ◌+ℤ◌, ◌-ℤ◌, ◌*ℤ◌, ◌≤ℤ◌, ◌<ℤ◌}
use Rattle.std.proofs.Common.{sym, ◌∙◌, ap, ap₂, inl, inr}
use Rattle.std.specs.Int.Signed.{lt_z}
use Rattle.whole.specs.Ring.{E, v, ◌:+◌, ◌:-◌, ◌:*◌, ring, ring1, by_ring}
use Rattle.whole.specs.Order.{Nonneg, positive_pos, positive_pred, sub_le, lt_sub, ≤ℤ_trans, ≤ℤ_total, ≤ℤ_antisym}
use Rattle.outline.specs.Drawing.{Point}
use Rattle.outline.specs.Spell.{A, B, O, I}
use Rattle.outline.specs.Compare.{first_part, less, not_less}
use Rattle.outline.specs.RowStep.{one_if}
use Rattle.outline.specs.CommonHeight.{Divides}
use Rattle.outline.specs.HalfHeight.{place}

-- the lower of u and y
abbrev clip : ℤ → ℤ → ℤ
clip u y = cond (lt_z u y) u y

clip_no : (u y : ℤ) → y ≤ℤ u → clip u y ≡ y
clip_no u y h = ap (λ b. cond b u y) (not_less u y h)

clip_yes : (u y : ℤ) → u <ℤ y → clip u y ≡ u
clip_yes u y h = ap (λ b. cond b u y) (less u y h)

module _ (D e : ℤ) (a b : Point) where
  -- what the line through a and b has from the height of a up to u
  abbrev from_a : ℤ → ℤ
  from_a u = (u -ℤ a.y) *ℤ (pos 2 *ℤ D *ℤ a.x) +ℤ e *ℤ (b.x -ℤ a.x) *ℤ ((u -ℤ a.y) *ℤ (u -ℤ a.y))

  -- and the side, in the rows below u
  abbrev pub part : ℤ → ℤ
  part u = from_a (clip u b.y) -ℤ from_a (clip u a.y)

  -- a b are 0 to 3, D e u are 4 to 6
  abbrev ρ : ℤ → List ℤ
  ρ u = a.x ∷ a.y ∷ b.x ∷ b.y ∷ D ∷ e ∷ u ∷ []

  abbrev from_e : E → E
  from_e u = (u :- A.y) :* ((I :+ I) :* v 4 :* A.x) :+ v 5 :* (B.x :- A.x) :* ((u :- A.y) :* (u :- A.y))

  abbrev place_e : E
  place_e = (I :+ I) :* v 4 :* A.x :+ ((I :+ I) :* v 6 :+ I :- (I :+ I) :* A.y) :* (v 5 :* (B.x :- A.x))

  -- ---- one row more
  from_step : (u y : ℤ) → from_a (clip (u +ℤ pos 1) y) ≡ from_a (clip u y) +ℤ one_if (lt_z u y) *ℤ place D e a b u
  from_step u y = go (≤ℤ_total y u)
    where
      go : (y ≤ℤ u) ⊎ (u <ℤ y) →
          from_a (clip (u +ℤ pos 1) y) ≡ from_a (clip u y) +ℤ one_if (lt_z u y) *ℤ place D e a b u
      go (inl h) =
          ap from_a (clip_no (u +ℤ pos 1) y (≤ℤ_trans h (first_part u (pos 1) (positive_pos 0))))
          ∙ ring (from_a y ∷ place D e a b u ∷ []) (v 0) (v 0 :+ O :* v 1) refl
          ∙ sym (ap₂ (λ w t. from_a w +ℤ one_if t *ℤ place D e a b u) (clip_no u y h) (not_less u y h))
      go (inr h) =
          ap from_a (up (≤ℤ_total y (u +ℤ pos 1))) ∙ ring (ρ u) (from_e (v 6 :+ I)) (from_e (v 6) :+ I :* place_e) refl
          ∙ sym (ap₂ (λ w t. from_a w +ℤ one_if t *ℤ place D e a b u) (clip_yes u y h) (less u y h))
        where
          up : (y ≤ℤ (u +ℤ pos 1)) ⊎ ((u +ℤ pos 1) <ℤ y) → clip (u +ℤ pos 1) y ≡ u +ℤ pos 1
          up (inr k) = clip_yes (u +ℤ pos 1) y k
          up (inl k) =
              clip_no (u +ℤ pos 1) y k
              ∙ ≤ℤ_antisym k (sub_le (by_ring (u ∷ y ∷ []) Nonneg (v 1 :- v 0 :- I) (v 1 :- (v 0 :+ I)) refl
              (positive_pred (lt_sub h))))

  pub part_step : (u : ℤ) →
      part (u +ℤ pos 1) ≡ part u +ℤ (one_if (lt_z u b.y) -ℤ one_if (lt_z u a.y)) *ℤ place D e a b u
  part_step u =
      ap₂ ◌-ℤ◌ (from_step u b.y) (from_step u a.y)
      ∙ ring (from_a (clip u b.y) ∷ from_a (clip u a.y) ∷ one_if (lt_z u b.y) ∷ one_if (lt_z u a.y) ∷
      place D e a b u ∷ []) (v 0 :+ v 2 :* v 4 :- (v 1 :+ v 3 :* v 4)) (v 0 :- v 1 :+ (v 2 :- v 3) :* v 4) refl

  -- ---- below the side nothing, above it the whole part
  pub part_low : (u : ℤ) → u <ℤ a.y → u <ℤ b.y → part u ≡ pos 0
  part_low u ha hb =
      ap₂ (λ s t. from_a s -ℤ from_a t) (clip_yes u b.y hb) (clip_yes u a.y ha)
      ∙ ring (from_a u ∷ []) (v 0 :- v 0) O refl

  pub part_high : Divides e (b.y -ℤ a.y) D → (u : ℤ) → a.y ≤ℤ u → b.y ≤ℤ u →
      part u ≡ D *ℤ ((b.y -ℤ a.y) *ℤ (a.x +ℤ b.x))
  part_high fit u ha hb =
      ap₂ (λ s t. from_a s -ℤ from_a t) (clip_no u b.y hb) (clip_no u a.y ha) ∙ go fit
    where
      whole_e : E
      whole_e = v 4 :* ((B.y :- A.y) :* (A.x :+ B.x))

      go : Divides e (b.y -ℤ a.y) D → from_a b.y -ℤ from_a a.y ≡ D *ℤ ((b.y -ℤ a.y) *ℤ (a.x +ℤ b.x))
      go (inl z) =
          ring1 (ρ u) (from_e B.y :- from_e A.y) whole_e
          ((I :+ I) :* v 4 :* A.x :+ v 5 :* (B.x :- A.x) :* (B.y :- A.y) :- v 4 :* (A.x :+ B.x)) (B.y :- A.y)
          O z refl
      go (inr z) =
          ring1 (ρ u) (from_e B.y :- from_e A.y) whole_e ((B.x :- A.x) :* (B.y :- A.y))
          (v 5 :* (B.y :- A.y)) (v 4) z refl
