-- A whole-number rule keeps points on segments. One that keeps heights in their order (c = 0, with a and d above zero)
-- keeps what lies in or on an outline, side by side: an end is higher than a point where its image is higher than the
-- point's, and a turn keeps its sign.
use Rattle.std.specs.Prelude.{◌≡◌, refl, [], ◌∷◌, ℕ, zero, suc, ℤ, pos, ◌+ℤ◌, ◌-ℤ◌, ◌*ℤ◌}
use Rattle.std.proofs.Common.{sym, ◌∙◌, ap, ap₂, inl, inr}
use Rattle.whole.specs.Ring.{v, con, ◌:+◌, ◌:-◌, ◌:*◌, ring1, ring2}
use Rattle.whole.specs.Order.{Positive}
use Rattle.outline.specs.Drawing.{Point, turn_of}
use Rattle.outline.specs.Placed.{On, Frac, on_of, frac_of}
use Rattle.outline.specs.Signs.{is_above, lt_above, above_scale}
use Rattle.outline.specs.Passing.{higher, passes, crosses}
use Rattle.outline.specs.Odd.{◌⊕◌}
use Rattle.outline.specs.Parity.{odd, InOn}
use Rattle.demands.specs.Entered.{Rule}
use Rattle.demands.specs.MovedPoints.{factor, image, numbers, image_y, turn_moved}

pub on_moved : (t : Rule) (z p q : Point) → On z p q → On (image t z) (image t p) (image t q)
on_moved t z p q o = on_of (record {
  m = g.m;
  k = g.k;
  k+ = g.k+;
  m0 = g.m0;
  m1 = g.m1;
  fx = axis t.a t.b t.e;
  fy = axis t.c t.d t.f;
})
  where
    g : Frac z p q
    g = frac_of z p q o

    -- z, p and q are 0 to 5, the part 6 and 7, the numbers of the axis 8 to 10
    axis : (a b e : ℤ) →
        g.k *ℤ (a *ℤ z.x +ℤ b *ℤ z.y +ℤ e -ℤ (a *ℤ p.x +ℤ b *ℤ p.y +ℤ e))
        ≡ g.m *ℤ (a *ℤ q.x +ℤ b *ℤ q.y +ℤ e -ℤ (a *ℤ p.x +ℤ b *ℤ p.y +ℤ e))
    axis a b e =
        ring2 (z.x ∷ z.y ∷ p.x ∷ p.y ∷ q.x ∷ q.y ∷ g.m ∷ g.k ∷ a ∷ b ∷ e ∷ [])
        (v 7 :* (v 8 :* v 0 :+ v 9 :* v 1 :+ v 10 :- (v 8 :* v 2 :+ v 9 :* v 3 :+ v 10)))
        (v 6 :* (v 8 :* v 4 :+ v 9 :* v 5 :+ v 10 :- (v 8 :* v 2 :+ v 9 :* v 3 :+ v 10)))
        (v 8) (v 7 :* (v 0 :- v 2)) (v 6 :* (v 4 :- v 2)) (v 9) (v 7 :* (v 1 :- v 3)) (v 6 :* (v 5 :- v 3))
        g.fx g.fy refl

module _ (t : Rule) (level : t.c ≡ pos 0) (tall : Positive t.d) where
  higher_kept : (z p : Point) → higher (image t z) (image t p) ≡ higher z p
  higher_kept z p =
      lt_above (image t z).y (image t p).y
      ∙ ap is_above (ring1 (numbers t (z.x ∷ z.y ∷ p.x ∷ p.y ∷ []))
      (image_y (v 8) (v 9) :- image_y (v 6) (v 7)) (v 3 :* (v 9 :- v 7)) (v 8 :- v 6) (v 2) (con (pos 0)) level refl)
      ∙ above_scale t.d (p.y -ℤ z.y) tall
      ∙ sym (lt_above z.y p.y)

  left_kept : (p q z : Point) → is_above (turn_of (image t p) (image t q) (image t z)) ≡ is_above (turn_of p q z)
  left_kept p q z = ap is_above (turn_moved t p q z) ∙ above_scale (factor t) (turn_of p q z) t.above

  crosses_kept : (z p q : Point) → crosses (image t z) (image t p) (image t q) ≡ crosses z p q
  crosses_kept z p q =
      ap₂ (λ h k. passes h k (is_above (turn_of (image t p) (image t q) (image t z)))
      (is_above (turn_of (image t q) (image t p) (image t z))))
      (higher_kept z p) (higher_kept z q)
      ∙ ap₂ (passes (higher z p) (higher z q)) (left_kept p q z) (left_kept q p z)

  odd_kept : (c : ℕ → Point) (z : Point) (n : ℕ) → odd (λ m. image t (c m)) (image t z) n ≡ odd c z n
  odd_kept c z zero = refl
  odd_kept c z (suc n) = ap₂ ◌⊕◌ (crosses_kept z (c n) (c (suc n))) (odd_kept c z n)

  pub in_level : (c : ℕ → Point) (n : ℕ) (z : Point) → InOn c n z → InOn (λ m. image t (c m)) n (image t z)
  in_level c n z (inl o) =
      inl (record { m = o.m; below = o.below; on = on_moved t z (c o.m) (c (suc o.m)) o.on })
  in_level c n z (inr e) = inr (odd_kept c z n ∙ e)
