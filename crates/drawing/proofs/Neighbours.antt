-- The neighbours as they are marked: each corner with itself and with the corner after it.
use mathlib.Core.Path.{◌≡◌, refl, sym, ap, ◌∙◌}
use mathlib.Core.Logic.{◌⊎◌, inl, inr, by_cases}
use mathlib.Core.List.{List}
use Prim.Native.Nat.{ℕ, ◌+◌, ◌≤◌, ◌<◌}
use native.Mathlib.Decide.{ℕ_discrete}
use native.Mathlib.Omega.{arith}
use lib.IntN.{ℤ}
use lib.ListN.{length}
use Rattle.limits.specs.Limits.{most_corners, all_cells}
use Rattle.outline.specs.Drawing.{corners, after, Beside}
use Rattle.drawing.specs.Parts.{Numbers}
use Rattle.drawing.specs.Table.{Code, None, Grows, both}
use Rattle.drawing.specs.Codes.{code_beside}
use Rattle.drawing.proofs.Growing.{grows_on, grows_in}
use Rattle.drawing.proofs.Pairs.{Pair, pair_added}

-- those of the corners before i and the corners after them
abbrev pub NextDone : List ℤ → ℕ → ℕ → ℕ → Type 0
NextDone d i p q = ((p < i) × ((p ≡ q) ⊎ (after d p ≡ q))) ⊎ ((q < i) × (after d q ≡ p))

module _ {d : List ℤ} where
  pub next_none : {c : List ℕ} → Grows d None (NextDone d 0) c c
  next_none = grows_in none
    where
      none : (p q : ℕ) → p < corners d → q < corners d → NextDone d 0 p q → ⊥
      none p q hp hq (inl h) = omega (arith, h.0)
      none p q hp hq (inr h) = omega (arith, h.0)

  -- corner i with itself, and with the corner n after it
  pub next_more : {i n : ℕ} {c t u : List ℕ} → corners d ≤ most_corners → i < corners d → Numbers d (after d i) n →
      all_cells ≤ length c → t ≡ both c i i 3 → u ≡ both t i n 3 →
      Grows d (NextDone d i) (NextDone d (i + 1)) c u
  next_more {i} {n} {c} {t} few hi next room e f =
      grows_on itself
      (grows_on (pair_added t few hi next.below beside still f) (grows_in split))
    where
      is : after d i ≡ n
      is = sym next.is

      itself : Grows d (NextDone d i) (λ p q. NextDone d i p q ⊎ Pair i i p q) c t
      itself = pair_added c few hi hi (code_beside hi hi (inl refl) refl) room e

      beside : Code d i n 3
      beside = code_beside hi next.below (inr (inl is)) refl

      still : all_cells ≤ length t
      still = omega (arith, room, itself.size)

      split : (p q : ℕ) → p < corners d → q < corners d → NextDone d (i + 1) p q →
          (NextDone d i p q ⊎ Pair i i p q) ⊎ Pair i n p q
      split p q hp hq (inl (l, inl e)) =
          by_cases (ℕ_discrete p i) (λ x. inl (inr (inl (x, sym e ∙ x)))) (λ x. inl (inl (inl (omega arith, inl e))))
      split p q hp hq (inl (l, inr e)) =
          by_cases (ℕ_discrete p i) (λ x. inr (inl (x, sym e ∙ ap (after d) x ∙ is)))
          (λ x. inl (inl (inl (omega arith, inr e))))
      split p q hp hq (inr (l, e)) =
          by_cases (ℕ_discrete q i) (λ x. inr (inr (sym e ∙ ap (after d) x ∙ is, x)))
          (λ x. inl (inl (inr (omega arith, e))))

  pub next_all : {c : List ℕ} → Grows d (NextDone d (corners d)) (Beside d) c c
  next_all = grows_in all
    where
      all : (p q : ℕ) → p < corners d → q < corners d → Beside d p q → NextDone d (corners d) p q
      all p q hp hq (inl e) = inl (hp, inl e)
      all p q hp hq (inr (inl e)) = inl (hp, inr e)
      all p q hp hq (inr (inr e)) = inr (hq, e)
