-- A quarter turn keeps what lies in or on an outline. In or on is told by the sides that pass to the right of a point;
-- where all is turned to the left by a quarter, those are the sides that passed below it.
--
--     z - - - - - >   the sides that pass to the right
--     |
--     |  the quarter between: to the right of z and not higher
--     v
--     the sides that pass below
--
-- A side that z is not on passes one of the two ways, and not both, exactly when one of its ends, and not both, is in
-- the quarter between. Round the outline each corner ends two sides, so the two numbers of sides are odd together.
use Rattle.std.specs.Prelude.{◌≡◌, refl, Bool, true, false, [], ◌∷◌, ℕ, zero, suc, ◌<◌, pos, neg_ℤ}
use Rattle.std.proofs.Common.{sym, ◌∙◌, ap, inl, inr, arith, le_refl}
use Rattle.std.proofs.Math.Path.{ap₂}
use Rattle.std.specs.Int.Signed.{lt_z}
use Rattle.whole.specs.Ring.{v, con, ◌:-◌, ◌:*◌, neg, ring, ring1}
use Rattle.outline.specs.Drawing.{Point, turn_of}
use Rattle.outline.specs.Placed.{On, Frac, on_of, frac_of, on_turn}
use Rattle.outline.specs.Tells.{Decide}
use Rattle.outline.specs.Signs.{is_above}
use Rattle.outline.specs.Passing.{passes, crosses}
use Rattle.outline.specs.Odd.{◌⊕◌}
use Rattle.outline.specs.Xor.{⊕-no, ⊕-same, ⊕-zero, ⊕-comm, ⊕-swap, ⊕-chain}
use Rattle.outline.specs.Parity.{odd, OnSide, InOn}
use Rattle.outline.specs.OnTest.{on_side_dec}
use Rattle.demands.specs.LeftOf.{Compared, more, upto, compared, alike, unlike, places, turn, turn_of_lem}
use Rattle.demands.specs.LeftOf.{not_left, left, either_hand, off_by_x, off_by_y}

abbrev pub quarter : Point → Point
quarter a = record { x = neg_ℤ a.y; y = a.x }

-- ---- one side
-- in the quarter between: not higher, and to the right
abbrev between : Bool → Bool → Bool
between true x = false
between false x = x

in_between : Point → Point → Bool
in_between z k = between (lt_z z.y k.y) (lt_z z.x k.x)

module _ (z a b : Point) (off : ¬ On z a b) where
  -- z is left of the side as it goes from a to b; as it goes from b to a
  abbrev there : Bool
  there = is_above (turn_of a b z)

  abbrev back : Bool
  back = is_above (turn_of b a z)

  off' : ¬ On z b a
  off' o = off (on_turn o)

  by_quarters : {ya xa yb xb : Bool} → Compared z.y a.y ya → Compared z.x a.x xa →
      Compared z.y b.y yb → Compared z.x b.x xb →
      passes ya yb there back ⊕ passes xa xb there back ≡ between ya xa ⊕ between yb xb
  by_quarters (more ay) (more ax) (more by) (more bx) = refl
  by_quarters (more ay) (more ax) (more by) (upto bx) =
      not_left z b a (unlike (upto bx) (more ay)) (alike (more by) (more ax))
  by_quarters (more ay) (more ax) (upto by) (more bx) =
      ⊕-no back ∙ left z b a (alike (more bx) (more ay)) (unlike (upto by) (more ax))
      (off_by_y z b a off' (upto by) (more ay))
  by_quarters (more ay) (more ax) (upto by) (upto bx) = ⊕-same back
  by_quarters (more ay) (upto ax) (more by) (more bx) =
      not_left z a b (unlike (upto ax) (more by)) (alike (more ay) (more bx))
  by_quarters (more ay) (upto ax) (more by) (upto bx) = refl
  by_quarters (more ay) (upto ax) (upto by) (more bx) = either_hand z a b (off_by_x z a b off (upto ax) (more bx))
  by_quarters (more ay) (upto ax) (upto by) (upto bx) =
      ⊕-no back ∙ not_left z b a (unlike (upto bx) (more ay)) (alike (upto by) (upto ax))
  by_quarters (upto ay) (more ax) (more by) (more bx) =
      ⊕-no there ∙ left z a b (alike (more ax) (more by)) (unlike (upto ay) (more bx))
      (off_by_y z a b off (upto ay) (more by))
  by_quarters (upto ay) (more ax) (more by) (upto bx) =
      ⊕-comm there back ∙ either_hand z a b (off_by_x z a b off (more ax) (upto bx))
  by_quarters (upto ay) (more ax) (upto by) (more bx) = refl
  by_quarters (upto ay) (more ax) (upto by) (upto bx) =
      left z b a (alike (upto bx) (upto ay)) (unlike (upto by) (more ax)) (off_by_x z b a off' (upto bx) (more ax))
  by_quarters (upto ay) (upto ax) (more by) (more bx) = ⊕-same there
  by_quarters (upto ay) (upto ax) (more by) (upto bx) =
      ⊕-no there ∙ not_left z a b (unlike (upto ax) (more by)) (alike (upto ay) (upto bx))
  by_quarters (upto ay) (upto ax) (upto by) (more bx) =
      left z a b (alike (upto ax) (upto by)) (unlike (upto ay) (more bx)) (off_by_x z a b off (upto ax) (more bx))
  by_quarters (upto ay) (upto ax) (upto by) (upto bx) = refl

  turn_quarter : (a b : Point) → turn_of (quarter a) (quarter b) (quarter z) ≡ turn_of a b z
  turn_quarter a b =
      ring (places z a b) (turn (neg (v 3)) (v 2) (neg (v 5)) (v 4) (neg (v 1)) (v 0)) turn_of_lem refl

  side_turned : crosses z a b ⊕ crosses (quarter z) (quarter a) (quarter b) ≡ in_between z a ⊕ in_between z b
  unfolding in_between
  side_turned =
      ap₂ (λ s t. crosses z a b ⊕ passes (lt_z z.x a.x) (lt_z z.x b.x) (is_above s) (is_above t))
      (turn_quarter a b) (turn_quarter b a)
      ∙ by_quarters (compared z.y a.y) (compared z.x a.x) (compared z.y b.y) (compared z.x b.x)

-- ---- round the outline
sides_turned : (c : ℕ → Point) (z : Point) (n : ℕ) → ((m : ℕ) → m < n → ¬ On z (c m) (c (suc m))) →
    odd c z n ⊕ odd (λ m. quarter (c m)) (quarter z) n ≡ in_between z (c 0) ⊕ in_between z (c n)
sides_turned c z zero off = sym (⊕-same (in_between z (c 0)))
sides_turned c z (suc n) off =
    ⊕-swap (crosses z (c n) (c (suc n))) (odd c z n) (crosses (quarter z) (quarter (c n)) (quarter (c (suc n))))
    (odd (λ m. quarter (c m)) (quarter z) n)
    ∙ ap₂ ◌⊕◌ (side_turned z (c n) (c (suc n)) (off n (le_refl (suc n))))
    (sides_turned c z n (λ m h. off m (omega arith)))
    ∙ ⊕-chain (in_between z (c n)) (in_between z (c (suc n))) (in_between z (c 0))

on_quarter : (z a b : Point) → On z a b → On (quarter z) (quarter a) (quarter b)
on_quarter z a b o =
    let f : Frac z a b = frac_of z a b o in
    on_of (record {
      m = f.m;
      k = f.k;
      k+ = f.k+;
      m0 = f.m0;
      m1 = f.m1;
      fx = ring1 (f.m ∷ f.k ∷ z.y ∷ a.y ∷ b.y ∷ []) (v 1 :* (neg (v 2) :- neg (v 3)))
          (v 0 :* (neg (v 4) :- neg (v 3))) (neg (con (pos 1)))
          (v 1 :* (v 2 :- v 3)) (v 0 :* (v 4 :- v 3)) f.fy refl;
      fy = f.fx;
    })

pub in_quarter : (c : ℕ → Point) (n : ℕ) → c n ≡ c 0 → (z : Point) → InOn c n z →
    InOn (λ m. quarter (c m)) n (quarter z)
in_quarter c n closed z = go (on_side_dec c n z)
  where
    go : Decide (OnSide c n z) → InOn c n z → InOn (λ m. quarter (c m)) n (quarter z)
    go (inl o) i =
        inl (record { m = o.m; below = o.below; on = on_quarter z (c o.m) (c (suc o.m)) o.on })
    go (inr off) (inl o) = absurd (off o)
    go (inr off) (inr e) =
        inr (sym (⊕-zero (sides_turned c z n (λ m h o. off (record { m = m; below = h; on = o }))
        ∙ ap (λ k. in_between z (c 0) ⊕ in_between z k) closed ∙ ⊕-same (in_between z (c 0)))) ∙ e)
