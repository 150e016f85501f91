-- Four weights that balance. The four turns of two segments PQ and ab, each point against the other segment, balance
-- the heights of the four points: weighed by their turns, a and b together stand as high as P and Q. So, by the order
-- of the heights, two turns that are not negative make the other two so (and then the segments meet, `Meet`).
--
--      b   Q      Turn Q P a, Turn P Q b, Turn a b P and Turn b a Q: all above zero where they cross so
--       \ /
--       / \
--      P   a
use Rattle.std.specs.Prelude.{◌≡◌, refl, ◌⊎◌, List, [], ◌∷◌, ℤ, ◌+ℤ◌, ◌-ℤ◌, ◌*ℤ◌, ◌≤ℤ◌, ◌<ℤ◌}
use Rattle.std.proofs.Common.{sym, subst, inl, inr}
use Rattle.whole.specs.Ring.{E, v, ◌:+◌, ◌:-◌, ◌:*◌, neg, eval, norm, nil, ring, ring2, by_ring}
use Rattle.whole.specs.Order.{Nonneg, Positive, nonneg_add, nonneg_mul, positive_nonneg, positive_add, positive_mul}
use Rattle.whole.specs.Order.{positive_cancel, nonneg_cancel, le_sub, lt_sub, ≤ℤ_trans, <ℤ_le}
use Rattle.outline.specs.Drawing.{Point, turn_of}
use Rattle.outline.specs.Spell.{A, B, C, D, I, env4, TurnE}

-- ---- n1 of b and n2 of a balance n3 of q and n4 of p
pub record Balanced (n1 n2 n3 n4 a b p q : ℤ) : Type 0 where
  pub total : n1 +ℤ n2 ≡ n3 +ℤ n4
  pub moment : n2 *ℤ a +ℤ n1 *ℤ b ≡ n4 *ℤ p +ℤ n3 *ℤ q

-- spelled: the weights, and the heights
abbrev pub N1 : E
N1 = v 0

abbrev pub N2 : E
N2 = v 1

abbrev pub N3 : E
N3 = v 2

abbrev pub N4 : E
N4 = v 3

abbrev pub Ya : E
Ya = v 4

abbrev pub Yb : E
Yb = v 5

abbrev pub Yp : E
Yp = v 6

abbrev pub Yq : E
Yq = v 7

-- what the two equations say is nothing
abbrev total_e : E
total_e = N1 :+ N2 :- (N3 :+ N4)

abbrev moment_e : E
moment_e = N2 :* Ya :+ N1 :* Yb :- (N4 :* Yp :+ N3 :* Yq)

module _ {n1 n2 n3 n4 a b p q : ℤ} (r : Balanced n1 n2 n3 n4 a b p q) where
  abbrev pub weights : List ℤ
  weights = n1 ∷ n2 ∷ n3 ∷ n4 ∷ a ∷ b ∷ p ∷ q ∷ []

  -- the moment about the height h makes nothing: two expressions that differ by it are equal
  pub about : (h e f : E) → norm (e :- f :- (neg h :* total_e :+ I :* moment_e)) ≡ nil →
      eval weights f ≡ eval weights e
  about h e f n =
      sym (ring2 weights e f (neg h) (N1 :+ N2) (N3 :+ N4) I (N2 :* Ya :+ N1 :* Yb) (N4 :* Yp :+ N3 :* Yq)
      r.total r.moment n)

  pub about_back : (h e f : E) → norm (e :- f :- (h :* total_e :+ neg I :* moment_e)) ≡ nil →
      eval weights f ≡ eval weights e
  about_back h e f n =
      sym (ring2 weights e f h (N1 :+ N2) (N3 :+ N4) (neg I) (N2 :* Ya :+ N1 :* Yb) (N4 :* Yp :+ N3 :* Yq)
      r.total r.moment n)

  -- ---- by where a and b stand: low is not above p, high is above q, mid is between
  pub low_mid : a ≤ℤ p → p <ℤ b → b ≤ℤ q → Nonneg n2 → Nonneg n3 → Nonneg n1 × Nonneg n4
  low_mid ap pb bq h2 h3 = (
    nonneg_cancel (lt_sub pb)
        (subst Nonneg (about Yp ((Yb :- Yp) :* N1) (N2 :* (Yp :- Ya) :+ N3 :* (Yq :- Yp)) refl)
        (nonneg_add (nonneg_mul h2 (le_sub ap)) (nonneg_mul h3 (le_sub (≤ℤ_trans (<ℤ_le pb) bq))))),
    nonneg_cancel (lt_sub pb)
        (subst Nonneg (about Yb ((Yb :- Yp) :* N4) (N2 :* (Yb :- Ya) :+ N3 :* (Yq :- Yb)) refl)
        (nonneg_add (nonneg_mul h2 (le_sub (≤ℤ_trans ap (<ℤ_le pb)))) (nonneg_mul h3 (le_sub bq)))),
  )

  pub low_high : a ≤ℤ p → p ≤ℤ q → q <ℤ b → Nonneg n3 → Nonneg n4 → Nonneg n1 × Nonneg n2
  low_high ap pq qb h3 h4 =
      let ab : Positive (b -ℤ a) =
      by_ring weights Positive (Yb :- Yq :+ (Yq :- Yp :+ (Yp :- Ya))) (Yb :- Ya) refl
      (positive_add (lt_sub qb) (nonneg_add (le_sub pq) (le_sub ap))) in (
        nonneg_cancel ab
            (subst Nonneg (about Ya ((Yb :- Ya) :* N1) (N4 :* (Yp :- Ya) :+ N3 :* (Yq :- Ya)) refl)
            (nonneg_add (nonneg_mul h4 (le_sub ap)) (nonneg_mul h3 (le_sub (≤ℤ_trans ap pq))))),
        nonneg_cancel ab
            (subst Nonneg (about_back Yb ((Yb :- Ya) :* N2) (N4 :* (Yb :- Yp) :+ N3 :* (Yb :- Yq)) refl)
            (nonneg_add (nonneg_mul h4 (le_sub (≤ℤ_trans pq (<ℤ_le qb))))
            (nonneg_mul h3 (positive_nonneg (lt_sub qb))))),
      )

  -- p < a <= q makes p < q
  rises : p <ℤ a → a ≤ℤ q → Positive (q -ℤ p)
  rises pa aq =
      by_ring weights Positive (Ya :- Yp :+ (Yq :- Ya)) (Yq :- Yp) refl (positive_add (lt_sub pa) (le_sub aq))

  pub mid_mid : p <ℤ a → a ≤ℤ q → p <ℤ b → b ≤ℤ q → Nonneg n1 → Nonneg n2 → Nonneg n3 × Nonneg n4
  mid_mid pa aq pb bq h1 h2 = (
    nonneg_cancel (rises pa aq)
        (subst Nonneg (about_back Yp ((Yq :- Yp) :* N3) (N2 :* (Ya :- Yp) :+ N1 :* (Yb :- Yp)) refl)
        (nonneg_add (nonneg_mul h2 (positive_nonneg (lt_sub pa))) (nonneg_mul h1 (positive_nonneg (lt_sub pb))))),
    nonneg_cancel (rises pa aq)
        (subst Nonneg (about Yq ((Yq :- Yp) :* N4) (N2 :* (Yq :- Ya) :+ N1 :* (Yq :- Yb)) refl)
        (nonneg_add (nonneg_mul h2 (le_sub aq)) (nonneg_mul h1 (le_sub bq)))),
  )

  -- here a may stand as high as q, so one of the weights has to be above zero
  abbrev EitherAbove : Type 0
  EitherAbove = (Positive n1 × Nonneg n4) ⊎ (Nonneg n1 × Positive n4)

  some : {k l : ℤ} → EitherAbove → Positive k → Positive l → Positive (n1 *ℤ k +ℤ n4 *ℤ l)
  some (inl h) i j = positive_add (positive_mul h.0 i) (nonneg_mul h.1 (positive_nonneg j))
  some {k} {l} (inr h) i j =
      by_ring (n1 ∷ n4 ∷ k ∷ l ∷ []) Positive (v 1 :* v 3 :+ v 0 :* v 2) (v 0 :* v 2 :+ v 1 :* v 3) refl
      (positive_add (positive_mul h.1 j) (nonneg_mul h.0 (positive_nonneg i)))

  pub mid_high : p <ℤ a → a ≤ℤ q → q <ℤ b → EitherAbove → Nonneg n2 × Nonneg n3
  mid_high pa aq qb h =
      let ab : Positive (b -ℤ a) =
      by_ring weights Positive (Yb :- Yq :+ (Yq :- Ya)) (Yb :- Ya) refl (positive_add (lt_sub qb) (le_sub aq)) in (
        positive_nonneg (positive_cancel (le_sub aq)
            (subst Positive (about_back Yq ((Yq :- Ya) :* N2) (N1 :* (Yb :- Yq) :+ N4 :* (Yq :- Yp)) refl)
            (some h (lt_sub qb) (rises pa aq)))),
        positive_nonneg (positive_cancel (le_sub aq)
            (subst Positive (about_back Ya ((Yq :- Ya) :* N3) (N1 :* (Yb :- Ya) :+ N4 :* (Ya :- Yp)) refl)
            (some h ab (lt_sub pa)))),
      )

-- ---- the four turns are such weights, and so are their opposites. P, Q, a and b are A, B, C and D
module _ (P Q a b : Point) where
  pub balanced : Balanced (turn_of Q P a) (turn_of P Q b) (turn_of a b P) (turn_of b a Q) a.y b.y P.y Q.y
  balanced =
      let ρ = env4 P Q a b in
      record {
        total = ring ρ (TurnE B A C :+ TurnE A B D) (TurnE C D A :+ TurnE D C B) refl;
        moment =
            ring ρ (TurnE A B D :* C.y :+ TurnE B A C :* D.y) (TurnE D C B :* A.y :+ TurnE C D A :* B.y) refl;
      }

  pub balanced_back : Balanced (turn_of P Q a) (turn_of Q P b) (turn_of b a P) (turn_of a b Q) a.y b.y P.y Q.y
  balanced_back =
      let ρ = env4 P Q a b in
      record {
        total = ring ρ (TurnE A B C :+ TurnE B A D) (TurnE D C A :+ TurnE C D B) refl;
        moment =
            ring ρ (TurnE B A D :* C.y :+ TurnE A B C :* D.y) (TurnE C D B :* A.y :+ TurnE D C A :* B.y) refl;
      }
