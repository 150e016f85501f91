-- The definitions of `InOrOn` as `Parity` reads them: a drawing as a closed function, r times as large, where a point
-- is a pair of whole numbers.
-- (The theorems that follow are in proofs/, under the same name.)
use Rattle.std.specs.Prelude.{◌≡◌, refl, Bool, true, false, cond, List, ℕ, ◌<◌, eqb, ℤ}
use Rattle.std.proofs.Common.{sym, ◌∙◌, ap, arith, eq-eqb, ne_eqb}
use Rattle.whole.specs.Ring.{◌:-◌, ◌:*◌, neg, ring1}
use Rattle.outline.specs.Drawing.{Point, corner, corners}
use Rattle.outline.specs.InOrOn.{Spot, OnSegment}
use Rattle.outline.specs.Spell.{A, B, C, P, Q, R, I, env, At}
use Rattle.outline.specs.Passing.{top, grown}
use Rattle.outline.specs.Placed.{On, on_of, frac_of}

-- ---- the outline as a closed function: corner n is corner 0, and side k goes from `round k` to `round (k + 1)`
abbrev pub round : List ℤ → ℕ → Point
round d m = corner d (cond (eqb m (corners d)) 0 m)

pub round_inner : (d : List ℤ) (m : ℕ) → m < corners d → round d m ≡ corner d m
round_inner d m h = ap (λ t. corner d (cond t 0 m)) (ne_eqb m (corners d) (λ e. omega arith))

pub round_closed : (d : List ℤ) → round d (corners d) ≡ round d 0
round_closed d =
    ap (λ t. corner d (cond t 0 (corners d))) (eq-eqb (corners d) (corners d) refl)
    ∙ sym (ap (corner d) (either (eqb 0 (corners d)) 0))
  where
    either : (t : Bool) (k : ℕ) → cond t k k ≡ k
    either true k = refl
    either false k = refl

-- ---- on a segment. a, b and the point are A, B and C, its places P, Q and R
module _ (z : Spot) (a b : Point) where
  abbrev ρ : ℤ → ℤ → List ℤ
  ρ p q = env a b (top z) (top z) p q z.r

  pub on_read : OnSegment z a b → On (top z) (grown z a) (grown z b)
  on_read o =
      on_of (record {
        m = o.p;
        k = o.q;
        k+ = o.q_above;
        m0 = o.p_from;
        m1 = o.p_to;
        fx =
            ring1 (ρ o.p o.q) (Q :* (C.x :- R :* A.x)) (P :* (R :* B.x :- R :* A.x)) (neg I)
            (R :* At Q A.x P B.x) (Q :* C.x) o.on_x refl;
        fy =
            ring1 (ρ o.p o.q) (Q :* (C.y :- R :* A.y)) (P :* (R :* B.y :- R :* A.y)) (neg I)
            (R :* At Q A.y P B.y) (Q :* C.y) o.on_y refl;
      })

  pub on_said : On (top z) (grown z a) (grown z b) → OnSegment z a b
  on_said o =
      let f = frac_of (top z) (grown z a) (grown z b) o in
      record {
        p = f.m;
        q = f.k;
        q_above = f.k+;
        p_from = f.m0;
        p_to = f.m1;
        on_x =
            ring1 (ρ f.m f.k) (R :* At Q A.x P B.x) (Q :* C.x) (neg I) (Q :* (C.x :- R :* A.x))
            (P :* (R :* B.x :- R :* A.x)) f.fx refl;
        on_y =
            ring1 (ρ f.m f.k) (R :* At Q A.y P B.y) (Q :* C.y) (neg I) (Q :* (C.y :- R :* A.y))
            (P :* (R :* B.y :- R :* A.y)) f.fy refl;
      }
