-- Two outlines with the same corners, as the laws of "in or on" read them (corner n is corner 0): the same points lie
-- in or on them, and the same segments are seen.
use Rattle.std.specs.Prelude.{◌≡◌, refl, ℕ, zero, suc, ◌≤◌}
use Rattle.std.proofs.Common.{sym, ◌∙◌, ap, ap₂, subst, subst₂, inl, inr, arith, le_refl}
use Rattle.outline.specs.Drawing.{Point}
use Rattle.outline.specs.Placed.{On}
use Rattle.outline.specs.Passing.{crosses}
use Rattle.outline.specs.Odd.{◌⊕◌}
use Rattle.outline.specs.Parity.{odd, InOn, out, large}
use Rattle.outline.specs.EveryPoint.{Sight}

-- corners 0 to n
abbrev SameCorners : (ℕ → Point) → (ℕ → Point) → ℕ → Type 0
SameCorners c e n = (m : ℕ) → m ≤ n → c m ≡ e m

module _ (c e : ℕ → Point) (z : Point) where
  odd_same : (n : ℕ) → SameCorners c e n → odd c z n ≡ odd e z n
  odd_same zero same = refl
  odd_same (suc n) same =
      ap₂ ◌⊕◌ (ap₂ (crosses z) (same n (omega arith)) (same (suc n) (le_refl (suc n))))
      (odd_same n (λ m h. same m (omega arith)))

  in_same : (n : ℕ) → SameCorners c e n → InOn c n z → InOn e n z
  in_same n same (inl o) =
      inl (record {
        m = o.m;
        below = o.below;
        on = subst₂ (On z) (same o.m (omega (arith, o.below))) (same (suc o.m) o.below) o.on;
      })
  in_same n same (inr odd) = inr (sym (odd_same n same) ∙ odd)

pub sight_same : (c e : ℕ → Point) (n k : ℕ) (a b a' b' : Point) → n ≡ k → SameCorners c e n → a ≡ a' → b ≡ b' →
    Sight c n a b → Sight e k a' b'
sight_same c e n k a b a' b' many same f g s =
    subst (λ k. Sight e k a' b') many
    (subst₂ (Sight e n) f g
    (λ z r r+ o. in_same (large r c) (large r e) z n (λ m h. ap (out r) (same m h)) (s z r r+ o)))
