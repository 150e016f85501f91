-- A point of the segment from corner i to corner j that is on no side, where no side crosses the segment: it lies in
-- the outline if the points half way between corners on the segment are in or on. For it lies between two such
-- corners, the last before it and the first after it, and has the parity of the point half way between them
-- (`Stretch`).
--
--      i ---- k ---- z ----w---------- l --- j       w half way between k and l
use Rattle.std.specs.Prelude.{◌≡◌, refl, true, ◌⊎◌, List, [], ◌∷◌, ℕ, suc, ◌<◌, ◌≤◌, ℤ, neg_ℤ, ◌+ℤ◌, ◌*ℤ◌, ◌≤ℤ◌, ◌<ℤ◌}
use Rattle.std.proofs.Common.{sym, ◌∙◌, ap, subst, arith, le_refl}
use Rattle.std.proofs.Math.Logic.{inl, inr}
use Rattle.std.proofs.Math.IntN.{pos}
use Rattle.std.specs.Int.Signed.{≤ℤ_refl, <ℤ-≤ℤ_trans}
use Rattle.whole.specs.Ring.{v, ◌:+◌, ◌:-◌, ◌:*◌, neg, ring1, ring2, by_ring}
use Rattle.whole.specs.Order.{Nonneg, Positive, nonneg_pos, positive_pos, positive_cancel, zero_cancel, le_sub, sub_le}
use Rattle.whole.specs.Order.{lt_sub, sub_lt, ≤ℤ_trans, ≤ℤ_total, ≤ℤ_strict, <ℤ_le}
use Rattle.outline.specs.Drawing.{Point, turn_of}
use Rattle.outline.specs.Spell.{A, B, C, D, O, I, TurnE, DotE, PointE, Two}
use Rattle.outline.specs.Segments.{turn_start, turn_end}
use Rattle.outline.specs.Tells.{decided, and_tells}
use Rattle.outline.specs.Tests.{le_tells, number_tells}
use Rattle.outline.specs.Placed.{On, on_start}
use Rattle.outline.specs.Along.{len2, along, along_start, along_low, along_high, on_along, same_x, same_y}
use Rattle.outline.specs.Parity.{odd, OnSide, InOn}
use Rattle.outline.specs.Crossing.{Crosses}
use Rattle.outline.specs.Covers.{Free}
use Rattle.outline.specs.Stretch.{stretch}
use Rattle.outline.specs.Topmost.{last, Top, topmost}

-- ---- the point half way
pub record Mid (c : ℕ → Point) (n : ℕ) (K L : Point) : Type 0 where
  pub w : Point
  pub hx : pos 2 *ℤ w.x ≡ K.x +ℤ L.x
  pub hy : pos 2 *ℤ w.y ≡ K.y +ℤ L.y
  pub holds : InOn c n w

-- I and J are A and B, K and L are C and D, and w is spelled so
abbrev W : PointE
W = record { x = v 8; y = v 9 }

module _ (i j w K L : Point) (hx : pos 2 *ℤ w.x ≡ K.x +ℤ L.x) (hy : pos 2 *ℤ w.y ≡ K.y +ℤ L.y) where
  abbrev η : List ℤ
  η = i.x ∷ i.y ∷ j.x ∷ j.y ∷ K.x ∷ K.y ∷ L.x ∷ L.y ∷ w.x ∷ w.y ∷ []

  half_turn : turn_of i j K ≡ pos 0 → turn_of i j L ≡ pos 0 → turn_of i j w ≡ pos 0
  half_turn ek el =
      zero_cancel {k = pos 2} (positive_pos 1)
      (ring2 η (Two :* TurnE A B W) (TurnE A B C :+ TurnE A B D) (neg (B.y :- A.y)) (Two :* W.x) (C.x :+ D.x)
      (B.x :- A.x) (Two :* W.y) (C.y :+ D.y) hx hy refl
      ∙ ring2 η (TurnE A B C :+ TurnE A B D) O I (TurnE A B C) O I (TurnE A B D) O ek el refl)

  half_along : pos 2 *ℤ along i j w ≡ along i j K +ℤ along i j L
  half_along =
      ring2 η (Two :* DotE A W B) (DotE A C B :+ DotE A D B) (B.x :- A.x) (Two :* W.x) (C.x :+ D.x)
      (B.y :- A.y) (Two :* W.y) (C.y :+ D.y) hx hy refl

half_low : (t k l : ℤ) → pos 2 *ℤ t ≡ k +ℤ l → k <ℤ l → k <ℤ t
half_low t k l e h =
    sub_lt (positive_cancel {k = pos 2} (nonneg_pos 2)
    (subst Positive
    (ring1 (t ∷ k ∷ l ∷ []) (v 2 :- v 1) (Two :* (v 0 :- v 1)) (neg I) (Two :* v 0) (v 1 :+ v 2) e refl)
    (lt_sub h)))

half_high : (t k l : ℤ) → pos 2 *ℤ t ≡ k +ℤ l → k <ℤ l → t <ℤ l
half_high t k l e h =
    sub_lt (positive_cancel {k = pos 2} (nonneg_pos 2)
    (subst Positive (ring1 (t ∷ k ∷ l ∷ []) (v 2 :- v 1) (Two :* (v 2 :- v 0)) I (Two :* v 0) (v 1 :+ v 2) e refl)
    (lt_sub h)))

-- ---- the corners on the segment next to z
module _ (c : ℕ → Point) (n : ℕ) (closed : c n ≡ c 0) (i j : ℕ) (i< : i < n) (j< : j < n)
    (n+ : Positive (len2 (c i) (c j))) (clear : (m : ℕ) → m < n → ¬ Crosses (c i) (c j) (c m) (c (suc m)))
    (mids : (k l : ℕ) → k < n → l < n → On (c k) (c i) (c j) → On (c l) (c i) (c j) → Mid c n (c k) (c l))
    (z : Point) (o : On z (c i) (c j)) (off : ¬ OnSide c n z) where
  abbrev at : ℕ → ℤ
  at m = along (c i) (c j) (c m)

  abbrev here : ℤ
  here = along (c i) (c j) z

  abbrev OnLine : ℕ → Type 0
  OnLine m = turn_of (c i) (c j) (c m) ≡ pos 0

  abbrev Before : ℕ → Type 0
  Before m = OnLine m × ((pos 0 ≤ℤ at m) × (at m ≤ℤ here))

  abbrev After : ℕ → Type 0
  After m = OnLine m × ((here ≤ℤ at m) × (at m ≤ℤ len2 (c i) (c j)))

  before : Top Before at n n
  before =
      topmost Before (λ m. decided (and_tells (number_tells _ _) (and_tells (le_tells _ _) (le_tells _ _)))) at n
      i i< (
        turn_start (c i) (c j),
        (
          subst Nonneg (sym (along_start (c i) (c j))) (nonneg_pos 0),
          subst (λ t. t ≤ℤ here) (sym (along_start (c i) (c j))) (along_low z (c i) (c j) o),
        ),
      )
      n (le_refl n)

  after : Top After (λ m. neg_ℤ (at m)) n n
  after =
      topmost After (λ m. decided (and_tells (number_tells _ _) (and_tells (le_tells _ _) (le_tells _ _))))
      (λ m. neg_ℤ (at m)) n j j<
      (turn_end (c i) (c j), (along_high z (c i) (c j) o, ≤ℤ_refl (len2 (c i) (c j)))) n (le_refl n)

  k : ℕ
  k = before.k

  l : ℕ
  l = after.k

  -- neither is at z, which is on no side
  not_here : (m : ℕ) → m < n → OnLine m → ¬ (at m ≡ here)
  not_here m b e f =
      off (record {
        m = m;
        below = b;
        on =
            on_start z (c m) (c (suc m)) (same_x (c i) (c j) n+ z (c m) o.line e f)
            (same_y (c i) (c j) n+ z (c m) o.line e f);
      })

  k_here : at k <ℤ here
  unfolding k
  k_here = ≤ℤ_strict before.has.1.1 (not_here k before.below before.has.0)

  here_l : here <ℤ at l
  unfolding l
  here_l = ≤ℤ_strict after.has.1.0 (λ e. not_here l after.below after.has.0 (sym e))

  -- no corner of the line lies between them
  unneg : {a b : ℤ} → neg_ℤ a ≤ℤ neg_ℤ b → b ≤ℤ a
  unneg {a} {b} h = sub_le (by_ring (a ∷ b ∷ []) Nonneg (neg (v 1) :- neg (v 0)) (v 0 :- v 1) refl (le_sub h))

  free_below : (m : ℕ) → m < n → OnLine m → Free (at k) (at l) (at m)
  unfolding k l
  free_below m b e = go (≤ℤ_total (at m) here) (≤ℤ_total (pos 0) (at m)) (≤ℤ_total (at m) (len2 (c i) (c j)))
    where
      go : (at m ≤ℤ here) ⊎ (here <ℤ at m) → (pos 0 ≤ℤ at m) ⊎ (at m <ℤ pos 0) →
          (at m ≤ℤ len2 (c i) (c j)) ⊎ (len2 (c i) (c j) <ℤ at m) → Free (at k) (at l) (at m)
      go (inl h) (inl i) s = inl (before.top m b (e, (i, h)))
      go (inl h) (inr i) s = inl (≤ℤ_trans (<ℤ_le i) before.has.1.0)
      go (inr h) t (inl i) = inr (unneg (after.top m b (e, (<ℤ_le h, i))))
      go (inr h) t (inr i) = inr (≤ℤ_trans after.has.1.1 (<ℤ_le i))

  free : (m : ℕ) → m ≤ n → OnLine m → Free (at k) (at l) (at m)
  free m b e = go (last m n (omega arith))
    where
      go : (m < n) ⊎ (m ≡ n) → Free (at k) (at l) (at m)
      go (inl h) = free_below m h e
      go (inr h) =
          let f : c m ≡ c 0 = ap c h ∙ closed in
          subst (λ w. Free (at k) (at l) (along (c i) (c j) w)) (sym f)
          (free_below 0 (omega arith) (subst (λ w. turn_of (c i) (c j) w ≡ pos 0) f e))

  mid : Mid c n (c k) (c l)
  unfolding k l
  mid =
      mids k l before.below after.below
      (on_along (c k) (c i) (c j) n+ before.has.0 before.has.1.0
      (≤ℤ_trans before.has.1.1 (along_high z (c i) (c j) o)))
      (on_along (c l) (c i) (c j) n+ after.has.0 (≤ℤ_trans (along_low z (c i) (c j) o) after.has.1.0)
      after.has.1.1)

  pub odd_between : odd c z n ≡ true
  unfolding k l
  odd_between =
      let w = mid.w in
      let e = half_along (c i) (c j) w (c k) (c l) mid.hx mid.hy in
      let kl : at k <ℤ at l = <ℤ-≤ℤ_trans k_here (<ℤ_le here_l) in
      stretch c n closed (c i) (c j) z w n+ o.line
      (half_turn (c i) (c j) w (c k) (c l) mid.hx mid.hy before.has.0 after.has.0)
      (at k) (at l) before.has.1.0 after.has.1.1 k_here here_l
      (half_low (along (c i) (c j) w) (at k) (at l) e kl) (half_high (along (c i) (c j) w) (at k) (at l) e kl)
      clear free off mid.holds
