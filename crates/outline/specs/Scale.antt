-- A drawing k times as large: turns grow by the square of k, and whether a point is on a side, which sides are
-- to its right, and so whether it is in or on stays as it is.
use Rattle.std.specs.Prelude.{◌≡◌, refl, [], ◌∷◌, ℕ, zero, suc, ℤ, pos, ◌*ℤ◌}
use Rattle.std.proofs.Common.{sym, ◌∙◌, ap, inl, inr}
use Rattle.std.proofs.Math.IntN.{*ℤ-zero}
use Rattle.whole.specs.Ring.{v, ◌:-◌, ◌:*◌, ring, ring1, by_ring}
use Rattle.whole.specs.Order.{Positive, positive_nonneg, positive_mul, le_cancel, zero_cancel}
use Rattle.whole.specs.Order.{diff_zero, *ℤ_mono}
use Rattle.outline.specs.Drawing.{Point, turn_of}
use Rattle.outline.specs.Spell.{A, B, C, R, O, I, env, OutE, TurnE, DotE}
use Rattle.outline.specs.Segments.{point_eq}
use Rattle.outline.specs.Passing.{crosses}
use Rattle.outline.specs.Odd.{◌⊕◌}
use Rattle.outline.specs.Placed.{Btw, On}
use Rattle.outline.specs.Along.{len2}
use Rattle.outline.specs.Signs.{is_above, above_scale, lt_scale}
use Rattle.outline.specs.Parity.{odd, InOn, out, large}

-- the scale is R
pub turn_scale : (k : ℤ) (a b z : Point) → turn_of (out k a) (out k b) (out k z) ≡ k *ℤ (k *ℤ turn_of a b z)
turn_scale k a b z =
    ring (env a b z z (pos 0) (pos 0) k) (TurnE (OutE R A) (OutE R B) (OutE R C)) (R :* (R :* TurnE A B C)) refl

-- ---- points that differ, and lengths
pub apart_scale : (k : ℤ) (a b : Point) → Positive k → ¬ (a ≡ b) → ¬ (out k a ≡ out k b)
apart_scale k a b h ne e =
    ne (point_eq (back a.x b.x (ap (λ w. w.x) e)) (back a.y b.y (ap (λ w. w.y) e)))
  where
    back : (s t : ℤ) → k *ℤ s ≡ k *ℤ t → s ≡ t
    back s t f =
        diff_zero s t (zero_cancel h
        (ring1 (k ∷ s ∷ t ∷ []) (v 0 :* (v 1 :- v 2)) O I (v 0 :* v 1) (v 0 :* v 2) f refl))

pub len_scale : (k : ℤ) (a b : Point) → Positive k → Positive (len2 a b) → Positive (len2 (out k a) (out k b))
len_scale k a b h n+ =
    by_ring (env a b a b (pos 0) (pos 0) k) Positive (R :* R :* DotE A B B) (DotE (OutE R A) (OutE R B) (OutE R B))
    refl
    (positive_mul (positive_mul h h) n+)

-- ---- the sides to the right
left_scale : (k : ℤ) (a b z : Point) → Positive k →
    is_above (turn_of (out k a) (out k b) (out k z)) ≡ is_above (turn_of a b z)
left_scale k a b z h =
    ap is_above (turn_scale k a b z) ∙ above_scale k (k *ℤ turn_of a b z) h ∙ above_scale k (turn_of a b z) h

crosses_scale : (k : ℤ) (z a b : Point) → Positive k → crosses (out k z) (out k a) (out k b) ≡ crosses z a b
crosses_scale k z a b h =
    rw (lt_scale k z.y a.y h, lt_scale k z.y b.y h, left_scale k a b z h, left_scale k b a z h)

pub odd_scale : (c : ℕ → Point) (k : ℤ) (z : Point) → Positive k → (n : ℕ) → odd (large k c) (out k z) n ≡ odd c z n
odd_scale c k z h zero = refl
odd_scale c k z h (suc n) =
    ap (λ t. t ⊕ odd (large k c) (out k z) n) (crosses_scale k z (c n) (c (suc n)) h)
    ∙ ap (λ t. crosses z (c n) (c (suc n)) ⊕ t) (odd_scale c k z h n)

-- ---- on a segment
btw_scale : {k u x w : ℤ} → Positive k → Btw u x w → Btw (k *ℤ u) (k *ℤ x) (k *ℤ w)
btw_scale h (inl b) = inl (*ℤ_mono (positive_nonneg h) b.0, *ℤ_mono (positive_nonneg h) b.1)
btw_scale h (inr b) = inr (*ℤ_mono (positive_nonneg h) b.0, *ℤ_mono (positive_nonneg h) b.1)

btw_back : (k u x w : ℤ) → Positive k → Btw (k *ℤ u) (k *ℤ x) (k *ℤ w) → Btw u x w
btw_back k u x w h (inl b) = inl (le_cancel h b.0, le_cancel h b.1)
btw_back k u x w h (inr b) = inr (le_cancel h b.0, le_cancel h b.1)

pub on_scale : (k : ℤ) (z a b : Point) → Positive k → On z a b → On (out k z) (out k a) (out k b)
on_scale k z a b h o =
    record {
      line = turn_scale k a b z ∙ ap (λ t. k *ℤ (k *ℤ t)) o.line ∙ ap (λ t. k *ℤ t) (*ℤ-zero k) ∙ *ℤ-zero k;
      bx = btw_scale h o.bx;
      by = btw_scale h o.by;
    }

pub on_back : (k : ℤ) (z a b : Point) → Positive k → On (out k z) (out k a) (out k b) → On z a b
on_back k z a b h o =
    record {
      line = zero_cancel h (zero_cancel h (sym (turn_scale k a b z) ∙ o.line));
      bx = btw_back k a.x z.x b.x h o.bx;
      by = btw_back k a.y z.y b.y h o.by;
    }

-- ---- so in or on stays, both ways
pub in_scale : (c : ℕ → Point) (n : ℕ) (k : ℤ) (z : Point) → Positive k → InOn c n z → InOn (large k c) n (out k z)
in_scale c n k z h (inl s) =
    inl (record { m = s.m; below = s.below; on = on_scale k z (c s.m) (c (suc s.m)) h s.on })
in_scale c n k z h (inr e) = inr (odd_scale c k z h n ∙ e)

pub in_back : (c : ℕ → Point) (n : ℕ) (k : ℤ) (z : Point) → Positive k → InOn (large k c) n (out k z) → InOn c n z
in_back c n k z h (inl s) =
    inl (record { m = s.m; below = s.below; on = on_back k z (c s.m) (c (suc s.m)) h s.on })
in_back c n k z h (inr e) = inr (sym (odd_scale c k z h n) ∙ e)
