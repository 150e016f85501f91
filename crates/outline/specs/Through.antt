-- A side ab that runs through a segment PQ: the ends of each lie strictly on the two sides of the other. Such a side
-- breaks the rule of `ParitySide`, so if PQ meets no other side, just one of P and Q has an odd number of sides to its
-- right.
--
--      b   Q
--       \ /
--       / \
--      P   a
use Rattle.std.specs.Prelude.{◌≡◌, refl, Bool, true, false, not, ◌⊎◌, ℕ, suc, ◌<◌, pos, ◌-ℤ◌, ◌≤ℤ◌, ◌<ℤ◌}
use Rattle.std.proofs.Common.{sym, ◌∙◌, ap, subst, inl, inr}
use Rattle.std.specs.Int.Signed.{<ℤ_irrefl}
use Rattle.whole.specs.Ring.{E, ◌:+◌, ◌:-◌, ◌:*◌, neg, eval, ring2, by_ring}
use Rattle.whole.specs.Order.{Nonneg, Positive, nonneg_add, nonneg_mul, positive_nonneg, positive_add, positive_mul}
use Rattle.whole.specs.Order.{positive_or, le_sub, lt_sub, <ℤ_le, ≤ℤ_total}
use Rattle.outline.specs.Drawing.{Point, Shared, turn_of}
use Rattle.outline.specs.Spell.{A, B, C, O, env4, TurnE}
use Rattle.outline.specs.Segments.{turned_first, turn_back}
use Rattle.outline.specs.Passing.{higher, passes, crosses}
use Rattle.outline.specs.Odd.{◌⊕◌}
use Rattle.outline.specs.Xor.{⊕-comm}
use Rattle.outline.specs.Signs.{is_above, above_yes, above_no}
use Rattle.outline.specs.Balance.{N1, N2, N3, N4, Ya, Yb, Yp, Yq, weights, about, about_back, balanced}
use Rattle.outline.specs.ParitySide.{Place, low, mid, high, place, inside, strip}
use Rattle.outline.specs.Parity.{odd}
use Rattle.outline.specs.ParityRound.{flipped_parity}

pub record RunsThrough (P Q a b : Point) : Type 0 where
  pub t1 : Positive (turn_of Q P a)
  pub t2 : Positive (turn_of P Q b)
  pub t3 : Positive (turn_of a b P)
  pub t4 : Positive (turn_of b a Q)

-- ---- the side does not end below both P and Q, nor above both: the turns balance the heights
module _ (P Q a b : Point) (pq : P.y ≤ℤ Q.y) (t : RunsThrough P Q a b) where
  -- n2 (p - a) + n1 (p - b) + n3 (q - p) is nothing
  abbrev low_e : E
  low_e = N2 :* (Yp :- Ya) :+ N1 :* (Yp :- Yb) :+ N3 :* (Yq :- Yp)

  no_low : a.y ≤ℤ P.y → ¬ (b.y ≤ℤ P.y)
  no_low ap bp = go (positive_or (le_sub pq)) (positive_or (le_sub ap))
    where
      contra : ¬ Positive (eval (weights (balanced P Q a b)) low_e)
      contra h = <ℤ_irrefl (subst Positive (sym (about_back (balanced P Q a b) Yp low_e O refl)) h)

      go : Positive (Q.y -ℤ P.y) ⊎ (Q.y -ℤ P.y ≡ pos 0) → ¬ (Positive (P.y -ℤ a.y) ⊎ (P.y -ℤ a.y ≡ pos 0))
      go (inl h) s =
          contra (by_ring (weights (balanced P Q a b)) Positive
          (N3 :* (Yq :- Yp) :+ (N2 :* (Yp :- Ya) :+ N1 :* (Yp :- Yb))) low_e refl
          (positive_add (positive_mul t.t3 h)
          (nonneg_add (nonneg_mul (positive_nonneg t.t2) (le_sub ap))
          (nonneg_mul (positive_nonneg t.t1) (le_sub bp)))))
      go (inr e) (inl h) =
          contra (positive_add
          (positive_add (positive_mul t.t2 h) (nonneg_mul (positive_nonneg t.t1) (le_sub bp)))
          (nonneg_mul (positive_nonneg t.t3) (le_sub pq)))
      -- P, Q and a at one height: a does not turn from QP
      go (inr e) (inr f) =
          <ℤ_irrefl (subst Positive (ring2 (env4 P Q a b) (TurnE B A C) O
          (neg (A.x :- B.x) :+ (C.x :- B.x)) (B.y :- A.y) O (neg (A.x :- B.x)) (A.y :- C.y) O e f refl)
          t.t1)

  no_high : Q.y <ℤ a.y → ¬ (Q.y <ℤ b.y)
  no_high qa qb =
      <ℤ_irrefl (subst Positive
      (sym (about (balanced P Q a b) Yq (N2 :* (Ya :- Yq) :+ N1 :* (Yb :- Yq) :+ N4 :* (Yq :- Yp)) O refl))
      (positive_add
      (positive_add (positive_mul t.t2 (lt_sub qa))
      (nonneg_mul (positive_nonneg t.t1) (positive_nonneg (lt_sub qb))))
      (nonneg_mul (positive_nonneg t.t4) (le_sub pq))))

  -- ---- P has ab to its right where ab rises, Q where it falls; a lies right of PQ, b does not
  by_place : {pa qa pb qb : Bool} → Place P.y Q.y a.y pa qa → Place P.y Q.y b.y pb qb →
      passes pa pb true false ⊕ passes qa qb false true ≡ not (inside pa qa true ⊕ inside pb qb false)
  by_place (low i) (low j) = absurd (no_low i j)
  by_place (low i) (mid j k) = refl
  by_place (low i) (high j) = refl
  by_place (mid i j) (low k) = refl
  by_place (mid i j) (mid k l) = refl
  by_place (mid i j) (high k) = refl
  by_place (high i) (low j) = refl
  by_place (high i) (mid j k) = refl
  by_place (high i) (high j) = absurd (no_high i j)

  not_left : (u w z : Point) → Positive (turn_of u w z) → is_above (turn_of w u z) ≡ false
  not_left u w z h = above_no (turn_of w u z) (subst Nonneg (sym (turn_back w u z)) (positive_nonneg h))

  pub through : crosses P a b ⊕ crosses Q a b ≡ not (strip P Q a ⊕ strip P Q b)
  through =
      rw (
        above_yes t.t3,
        not_left a b P t.t3,
        not_left b a Q t.t4,
        above_yes t.t4,
        above_yes t.t1,
        not_left P Q b t.t2,
      )
      (by_place (place P.y Q.y a.y pq) (place P.y Q.y b.y pq))

-- ---- the side and the segment turned round
passes_turn : (s t u d : Bool) → passes s t u d ≡ passes t s d u
passes_turn true true u d = refl
passes_turn true false u d = refl
passes_turn false true u d = refl
passes_turn false false u d = refl

pub crosses_turn : (z a b : Point) → crosses z a b ≡ crosses z b a
crosses_turn z a b = passes_turn (higher z a) (higher z b) (is_above (turn_of a b z)) (is_above (turn_of b a z))

-- ---- round the outline
pub parity_flips : (c : ℕ → Point) (n : ℕ) → c n ≡ c 0 → (P Q : Point) (s : ℕ) → s < n →
    RunsThrough P Q (c s) (c (suc s)) → ((m : ℕ) → m < n → ¬ (m ≡ s) → ¬ Shared P Q (c m) (c (suc m))) →
    odd c P n ⊕ odd c Q n ≡ true
parity_flips c n closed P Q s b t h = go (≤ℤ_total P.y Q.y)
  where
    back : RunsThrough Q P (c (suc s)) (c s)
    back = record { t1 = t.t2; t2 = t.t1; t3 = t.t4; t4 = t.t3 }

    go : (P.y ≤ℤ Q.y) ⊎ (Q.y <ℤ P.y) → odd c P n ⊕ odd c Q n ≡ true
    go (inl k) = flipped_parity c n closed P Q k s b (through P Q (c s) (c (suc s)) k t) h
    go (inr k) =
        ⊕-comm (odd c P n) (odd c Q n)
        ∙ flipped_parity c n closed Q P (<ℤ_le k) s b
        (ap (λ z. z ⊕ crosses P (c s) (c (suc s))) (crosses_turn Q (c s) (c (suc s)))
        ∙ ap (λ z. crosses Q (c (suc s)) (c s) ⊕ z) (crosses_turn P (c s) (c (suc s)))
        ∙ through Q P (c (suc s)) (c s) (<ℤ_le k) back
        ∙ ap not (⊕-comm (strip Q P (c (suc s))) (strip Q P (c s))))
        (λ m i e sh. h m i e (turned_first sh))
