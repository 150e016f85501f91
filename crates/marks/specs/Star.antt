-- A piece and its centre in one drawing: its lines are lines of strict sight, and its centre sees all its corners. A
-- corner of the drawing on a line from the centre to another of them is one of the piece's own.
--
--           x                 The centre c sees j past k. Were k none of the piece's corners, it would lie behind a
--      c ---|--- k --- j      line xy of the piece, which ck and kj would both meet; then k is on xy. But no corner
--           y                 stands on a line of strict sight.
use Rattle.std.specs.Prelude.{◌≡◌, ◌⊎◌, List, ◌∷◌, ℕ, ◌<◌, ℤ}
use Rattle.std.proofs.Common.{sym, ap, subst, inl, inr, arith}
use Rattle.std.proofs.Math.Logic.{by_cases}
use Rattle.std.proofs.Math.Decide.{ℕ_discrete, dec_lt}
use Rattle.outline.specs.Drawing.{Shared, Sound, corner, corners, Sees}
use Rattle.outline.specs.InOrOn.{CentreSees}
use Rattle.outline.specs.Segments.{turned_first}
use Rattle.outline.specs.Unbroken.{none_between}
use Rattle.outline.specs.Placed.{on_turn, on_start, touch_meets, on_segment}
use Rattle.outline.specs.Along.{apart_length}
use Rattle.outline.specs.CornersApart.{corners_apart}
use Rattle.outline.proofs.CentreParts.{sees_parts}
use Rattle.outline.specs.CentreSight.{centre_mutual}
use Rattle.outline.specs.Way.{GrazedBy}
use Rattle.outline.specs.Squeezed.{squeezed}
use Rattle.outline.proofs.Across.{centre_across}
use Rattle.rules.specs.Lists.{In}
use Rattle.rules.specs.Cutting.{Pairs, Joined, Inside, Outside, Near, Region}
use Rattle.marks.specs.Follow.{Gap, gap}

-- the piece has the corners f, s in rising order, and the centre c
pub record Star (d : List ℤ) (C : Pairs) (f : ℕ) (s : List ℕ) (c : ℕ) : Type 0 where
  pub sound : Sound d
  pub region : Region (corners d) C (f ∷ s)
  pub strict : (a b : ℕ) → b < corners d → Joined (corners d) C a b → Sees d a b
  pub in_c : In c (f ∷ s)
  pub sees : (y : ℕ) → In y (f ∷ s) → CentreSees d c y

module _ {d : List ℤ} {C : Pairs} {f : ℕ} {s : List ℕ} {c : ℕ} (star : Star d C f s c) where
  pub centre_below : c < corners d
  centre_below = star.region.small c star.in_c

  -- ---- a corner on a spoke is one of the piece's
  module _ (k : ℕ) (hk : k < corners d) (g : Gap f (f ∷ s) k) where
    hy : g.y < corners d
    hy = star.region.small g.y g.in_y

    near : Near (f ∷ s) g.x g.y
    near = at g.where_k
      where
        at : (Inside (f ∷ s) g.x g.y × (g.x < k) × (k < g.y))
            ⊎ (Outside (f ∷ s) g.x g.y × ((k < g.x) ⊎ (g.y < k))) → Near (f ∷ s) g.x g.y
        at (inl h) = inl h.0
        at (inr h) = inr h.0

    line : Sees d g.x g.y
    line = star.strict g.x g.y hy ((star.region.lines g.x g.y g.in_x g.in_y g.rises).0 near)

    -- the line that k is behind is met on the way from any of the piece's corners
    met : (p : ℕ) → In p (f ∷ s) → CentreSees d p k →
        ¬ ¬ Shared (corner d p) (corner d k) (corner d g.x) (corner d g.y)
    met p i see never = at (ℕ_discrete p g.x) (ℕ_discrete p g.y) g.where_k
      where
        hp : p < corners d
        hp = star.region.small p i

        at : Dec (p ≡ g.x) → Dec (p ≡ g.y) →
            (Inside (f ∷ s) g.x g.y × (g.x < k) × (k < g.y))
            ⊎ (Outside (f ∷ s) g.x g.y × ((k < g.x) ⊎ (g.y < k))) → ⊥
        at (yes e) q h =
            never (touch_meets (corner d p) (corner d k) (corner d g.x) (corner d g.y)
            (inr (inl (on_start (corner d p) (corner d g.x) (corner d g.y) (ap (λ m. (corner d m).x) e)
            (ap (λ m. (corner d m).y) e)))))
        at (no n) (yes e) h =
            never (touch_meets (corner d p) (corner d k) (corner d g.x) (corner d g.y)
            (inr (inl (on_turn (on_start (corner d p) (corner d g.y) (corner d g.x) (ap (λ m. (corner d m).x) e)
            (ap (λ m. (corner d m).y) e))))))
        at (no n) (no m) (inl h) =
            centre_across d star.sound g.x g.y g.rises hy line k p h.1 h.2 hp
            (by_cases (dec_lt p g.x) inl (λ a. inr (beyond a))) (centre_mutual see) (λ t. never (turned_first t))
          where
            beyond : ¬ (p < g.x) → g.y < p
            beyond a =
                by_cases (dec_lt p g.y) (λ b. absurd (h.0 p i (omega (arith, a, n)) b)) (λ b. omega (arith, b, m))
        at (no n) (no m) (inr h) =
            let o = h.0 p i in
            centre_across d star.sound g.x g.y g.rises hy line p k (omega (arith, o.0, n))
            (omega (arith, o.1, m)) hk
            h.1 see never

  pub grazed_in : (j k : ℕ) → In j (f ∷ s) → GrazedBy d c j k → ¬ ¬ In k (f ∷ s)
  grazed_in j k i g out =
      met k g.below h c star.in_c parts.0
      (λ t. met k g.below h j i (centre_mutual parts.1) (λ u. never t u))
    where
      h : Gap f (f ∷ s) k
      h = gap f s star.region.rising star.region.three k out

      parts : CentreSees d c k × CentreSees d k j
      parts = sees_parts d c j k g.on (star.sees j i)

      hx : h.x < corners d
      hx = star.region.small h.x h.in_x

      xy : ¬ (h.x ≡ h.y)
      xy e = omega (arith, e, h.rises)

      never : Shared (corner d c) (corner d k) (corner d h.x) (corner d h.y) →
          Shared (corner d j) (corner d k) (corner d h.x) (corner d h.y) → ⊥
      never t u =
          none_between d star.sound.simple h.x h.y k hx (hy k g.below h) g.below xy
          (line k g.below h)
          (λ e. out (subst (λ m. In m (f ∷ s)) (sym e) h.in_x))
          (λ e. out (subst (λ m. In m (f ∷ s)) (sym e) h.in_y))
          (on_segment (corner d k) (corner d h.x) (corner d h.y)
          (squeezed (corner d c) (corner d k) (corner d j) (corner d h.x) (corner d h.y) g.on
          (apart_length (corner d h.x) (corner d h.y) (corners_apart d star.sound.simple h.x h.y hx
          (hy k g.below h) xy)) t (turned_first u)))
