-- A simple drawing's corners are different points, and what two sides share is an end of each.
use Rattle.std.specs.Prelude.{◌≡◌, refl, List, ℕ, suc, ◌<◌, ℤ, pos}
use Rattle.std.proofs.Common.{sym, ◌∙◌, ap, subst, inl, inr}
use Rattle.std.proofs.Math.Decide.{ℕ_discrete}
use Rattle.whole.specs.Ring.{◌:-◌, ◌:*◌, ring2}
use Rattle.whole.specs.Order.{Positive, zero_cancel, diff_zero}
use Rattle.outline.specs.Drawing.{Point, IsAt, Simple, corner, corners, after}
use Rattle.outline.specs.Spell.{A, B, P, R, O, env, DotE, ab_x, ab_y}
use Rattle.outline.specs.Segments.{only_exchanged}
use Rattle.outline.specs.Round.{next_below}
use Rattle.outline.specs.Placed.{on_start, touch_meets}
use Rattle.outline.specs.Along.{len2, apart_length}
use Rattle.outline.specs.EveryPoint as outline
use Rattle.outline.specs.EveryPoint.{AtEnd}
use Rattle.outline.specs.Reading.{round, round_inner}

-- ---- the place of a segment's end on it
module _ (a b : Point) (p r : ℤ) (n+ : Positive (len2 a b)) where
  pub at_end : IsAt b a b p r → p ≡ r
  at_end o =
      diff_zero p r (zero_cancel n+ (ring2 (env a b a b p (pos 0) r) (DotE A B B :* (P :- R)) O
      (B.x :- A.x) ab_x (R :* B.x) (B.y :- A.y) ab_y (R :* B.y) o.on_x o.on_y refl))

  pub at_start : IsAt a a b p r → p ≡ pos 0
  at_start o =
      zero_cancel n+ (ring2 (env a b a b p (pos 0) r) (DotE A B B :* P) O
      (B.x :- A.x) ab_x (R :* A.x) (B.y :- A.y) ab_y (R :* A.y) o.on_x o.on_y refl)

module _ (d : List ℤ) (simple : Simple d) where
  pub side_length : (k : ℕ) → k < corners d → Positive (len2 (corner d k) (corner d (after d k)))
  side_length k h = apart_length (corner d k) (corner d (after d k)) (simple.two_ends k h)

  -- ---- what two sides share is an end
  pub at_ends : (m k : ℕ) → m < corners d → k < corners d → ¬ (m ≡ k) →
      AtEnd (corner d m) (corner d (after d m)) (corner d k) (corner d (after d k))
  at_ends m k hm hk ne = go (ℕ_discrete (after d m) k) (ℕ_discrete (after d k) m)
    where
      next_side : AtEnd (corner d m) (corner d (after d m)) (corner d (after d m)) (corner d (after d (after d m)))
      next_side s =
          inr (at_end (corner d m) (corner d (after d m)) s.p s.r (side_length m hm) (simple.neighbours m hm s))

      side_before : AtEnd (corner d (after d k)) (corner d (after d (after d k))) (corner d k) (corner d (after d k))
      side_before s =
          inl (at_start (corner d (after d k)) (corner d (after d (after d k))) s.p s.r
          (side_length (after d k) (next_below (corners d) k hk))
          (only_exchanged {e = corner d (after d k)} {a = corner d k} {b = corner d (after d k)}
          {c = corner d (after d k)} {d = corner d (after d (after d k))} (simple.neighbours k hk) s))

      go : Dec (after d m ≡ k) → Dec (after d k ≡ m) →
          AtEnd (corner d m) (corner d (after d m)) (corner d k) (corner d (after d k))
      go (yes e) t =
          subst (λ l. AtEnd (corner d m) (corner d (after d m)) (corner d l) (corner d (after d l))) e next_side
      go (no e) (yes f) =
          subst (λ l. AtEnd (corner d l) (corner d (after d l)) (corner d k) (corner d (after d k))) f side_before
      go (no e) (no f) = λ s. absurd (simple.others m k hm hk ne e f s)

  -- as `EveryPoint` reads it
  pub simple_read : outline.Simple (round d) (corners d)
  simple_read =
      record {
        ends = λ m h. subst (λ a. Positive (len2 a (round d (suc m)))) (sym (round_inner d m h)) (side_length m h);
        apart = λ m k hm hk ne.
            subst (λ a. AtEnd a (corner d (after d m)) (round d k) (corner d (after d k))) (sym (round_inner d m hm))
            (subst (λ a. AtEnd (corner d m) (corner d (after d m)) a (corner d (after d k)))
            (sym (round_inner d k hk)) (at_ends m k hm hk ne));
      }

  -- ---- no two corners are one point: the sides that begin there would share it
  pub corners_apart : (i j : ℕ) → i < corners d → j < corners d → ¬ (i ≡ j) → ¬ (corner d i ≡ corner d j)
  corners_apart i j hi hj ne e = go (ℕ_discrete (after d i) j) (ℕ_discrete (after d j) i)
    where
      go : Dec (after d i ≡ j) → ¬ Dec (after d j ≡ i)
      go (yes f) t = simple.two_ends i hi (e ∙ ap (corner d) (sym f))
      go (no f) (yes g) = simple.two_ends j hj (sym e ∙ ap (corner d) (sym g))
      go (no f) (no g) =
          simple.others i j hi hj ne f g
          (touch_meets _ _ _ _ (inr (inl (on_start (corner d i) (corner d j) (corner d (after d j))
          (ap (λ a. a.x) e) (ap (λ a. a.y) e)))))
