-- The quick test for a shared point, and that it equals 01's definition, for all segments, those with equal ends
-- included. Neither segment lies strictly on one side of the other's line; and where c and d turn equally far from ab,
-- so that all four points are on one line, an end of one segment lies on the other.
use Rattle.std.specs.Prelude.{◌≡◌, refl, ◌⊎◌, ℤ, pos, neg_ℤ, ◌-ℤ◌, ◌≤ℤ◌, ◌<ℤ◌}
use Rattle.std.proofs.Common.{sym, ◌∙◌, subst, inl, inr}
use Rattle.std.specs.Int.Signed.{<ℤ-≤ℤ_trans, <ℤ_irrefl, ≤ℤ_refl}
use Rattle.whole.specs.Ring.{E, ◌:+◌, ◌:-◌, ◌:*◌, neg, ring, ring1, ring2, by_ring}
use Rattle.whole.specs.Order.{Nonneg, Positive, le_sub, sub_le, lt_sub, sub_lt, nonneg_pos, nonneg_add, nonneg_mul}
use Rattle.whole.specs.Order.{positive_pos, positive_add, positive_pred, squares_zero}
use Rattle.whole.specs.Order.{≤ℤ_total, ≤ℤ_trans, ≤ℤ_<ℤ_trans, ≤ℤ_antisym, <ℤ_le}
use Rattle.outline.specs.Drawing.{Point, Shared, turn_of}
use Rattle.outline.specs.Segments.{exchanged, turned_second, OneSide, one_side, Dot, dot_nonneg}
use Rattle.outline.specs.Spell.{A, B, C, D, P, Q, R, O, I, env, env4, TurnE, DotE, At, ab_x, ab_y, cd_x, cd_y}

abbrev pub Touch : Point → Point → Point → Point → Type 0
Touch a b c d = ((Dot c a b ≤ℤ pos 0) ⊎ (Dot d a b ≤ℤ pos 0)) ⊎ ((Dot a c d ≤ℤ pos 0) ⊎ (Dot b c d ≤ℤ pos 0))

pub record Quick (a b c d : Point) : Type 0 where
  pub first : ¬ OneSide (turn_of a b c) (turn_of a b d)
  pub second : ¬ OneSide (turn_of c d a) (turn_of c d b)
  pub flat : turn_of a b c ≡ turn_of a b d → Touch a b c d

-- ---- a shared point passes the test. The products of `Touch`, weighed by the shared point's place on the segments,
-- make nothing; so they are not all above zero.
weighed : E
weighed = (R :- Q) :* DotE C A B :+ Q :* DotE D A B :+ ((R :- P) :* DotE A C D :+ P :* DotE B C D)

less_one : E
less_one =
    (R :- Q) :* (DotE C A B :- I) :+ Q :* (DotE D A B :- I) :+
    ((R :- P) :* (DotE A C D :- I) :+ P :* (DotE B C D :- I))

not_all : {a b c d : Point} → Shared a b c d →
    Positive (Dot c a b) → Positive (Dot d a b) → Positive (Dot a c d) → ¬ Positive (Dot b c d)
unfolding weighed less_one
not_all {a} {b} {c} {d} s hc hd ha hb =
    let ρ = env a b c d s.p s.q s.r in
    <ℤ_irrefl
    (subst Positive
    (ring2 ρ weighed O (A.x :+ B.x :- C.x :- D.x) ab_x cd_x (A.y :+ B.y :- C.y :- D.y) ab_y cd_y
    s.same_x s.same_y refl)
    (by_ring ρ Positive (R :+ (R :+ less_one)) weighed refl
    (positive_add s.r_above (nonneg_add (<ℤ_le s.r_above)
    (nonneg_add
    (nonneg_add (nonneg_mul (le_sub s.q_to) (positive_pred hc)) (nonneg_mul s.q_from (positive_pred hd)))
    (nonneg_add (nonneg_mul (le_sub s.p_to) (positive_pred ha)) (nonneg_mul s.p_from (positive_pred hb))))))))

touches : {a b c d : Point} → Shared a b c d → Touch a b c d
touches {a} {b} {c} {d} s = go (test (Dot c a b)) (test (Dot d a b)) (test (Dot a c d)) (test (Dot b c d))
  where
    Test : ℤ → Type 0
    Test z = (z ≤ℤ pos 0) ⊎ (pos 0 <ℤ z)

    test : (z : ℤ) → Test z
    test z = ≤ℤ_total z (pos 0)

    go : Test (Dot c a b) → Test (Dot d a b) → Test (Dot a c d) → Test (Dot b c d) → Touch a b c d
    go (inl h) y z w = inl (inl h)
    go (inr x) (inl h) z w = inl (inr h)
    go (inr x) (inr y) (inl h) w = inr (inl h)
    go (inr x) (inr y) (inr z) (inl h) = inr (inr h)
    go (inr x) (inr y) (inr z) (inr w) = absurd (not_all s x y z w)

pub quick_complete : {a b c d : Point} → Shared a b c d → Quick a b c d
quick_complete s = record { first = λ h. one_side h s; second = λ h. one_side h (exchanged s); flat = λ e. touches s }

-- ---- what passes the test shares a point
-- of two numbers that are not of one sign, the smaller is not above zero and the larger is not below
low : {s t : ℤ} → s ≤ℤ t → ¬ OneSide s t → s ≤ℤ pos 0
low {s} {t} h n = go (≤ℤ_total s (pos 0))
  where
    go : (s ≤ℤ pos 0) ⊎ (pos 0 <ℤ s) → s ≤ℤ pos 0
    go (inl k) = k
    go (inr k) = absurd (n (inl (k, <ℤ-≤ℤ_trans k h)))

high : {s t : ℤ} → s ≤ℤ t → ¬ OneSide s t → pos 0 ≤ℤ t
high {s} {t} h n = go (≤ℤ_total (pos 0) t)
  where
    go : (pos 0 ≤ℤ t) ⊎ (t <ℤ pos 0) → pos 0 ≤ℤ t
    go (inl k) = k
    go (inr k) = absurd (n (inr (≤ℤ_<ℤ_trans h k, k)))

other_way : {s t : ℤ} → ¬ OneSide s t → ¬ OneSide t s
other_way n (inl h) = n (inl (h.1, h.0))
other_way n (inr h) = n (inr (h.1, h.0))

-- c and d do not turn equally far from ab: p = Turn(c,d,a), q = -Turn(a,b,c), r = Turn(a,b,d) - Turn(a,b,c), which is
-- also Turn(c,d,a) - Turn(c,d,b)
span : E
span = TurnE A B D :- TurnE A B C

crossing : {a b c d : Point} → turn_of a b c <ℤ turn_of a b d →
    ¬ OneSide (turn_of a b c) (turn_of a b d) → ¬ OneSide (turn_of c d a) (turn_of c d b) → Shared a b c d
unfolding span
crossing {a} {b} {c} {d} h n m =
    let ρ = env4 a b c d in
    let l = other_way m in
    let h≤ : turn_of a b c ≤ℤ turn_of a b d = <ℤ_le h in
    let k≤ : turn_of c d b ≤ℤ turn_of c d a = sub_le
    (by_ring ρ Nonneg span (TurnE C D A :- TurnE C D B) refl (le_sub h≤)) in
    record {
      p = turn_of c d a;
      q = neg_ℤ (turn_of a b c);
      r = turn_of a b d -ℤ turn_of a b c;
      r_above = lt_sub h;
      p_from = high k≤ l;
      p_to = sub_le (by_ring ρ Nonneg (O :- TurnE C D B) (span :- TurnE C D A) refl (le_sub (low k≤ l)));
      q_from = by_ring ρ Nonneg (O :- TurnE A B C) (neg (TurnE A B C)) refl (le_sub (low h≤ n));
      q_to = sub_le (by_ring ρ Nonneg (TurnE A B D) (span :- neg (TurnE A B C)) refl (high h≤ n));
      same_x = ring ρ (At span A.x (TurnE C D A) B.x) (At span C.x (neg (TurnE A B C)) D.x) refl;
      same_y = ring ρ (At span A.y (TurnE C D A) B.y) (At span C.y (neg (TurnE A B C)) D.y) refl;
    }

-- c is on the line ab, and on the segment. Where a and b are one point, c is too
at_point : {a b c d : Point} → Dot c a b ≤ℤ pos 0 → Dot a b b ≤ℤ pos 0 → Shared a b c d
at_point {a} {b} {c} {d} h k =
    let ρ = env4 a b c d in
    let near : Dot a c c ≤ℤ Dot a b b =
    sub_le (by_ring ρ Nonneg (O :- DotE C A B :+ (O :- DotE C A B) :+ DotE C B B) (DotE A B B :- DotE A C C) refl
    (nonneg_add (nonneg_add (le_sub h) (le_sub h)) (dot_nonneg c b))) in
    let z = squares_zero (c.x -ℤ a.x) (c.y -ℤ a.y) (≤ℤ_trans near k) in
    record {
      p = pos 0;
      q = pos 0;
      r = pos 1;
      r_above = positive_pos 0;
      p_from = nonneg_pos 0;
      p_to = nonneg_pos 1;
      q_from = nonneg_pos 0;
      q_to = nonneg_pos 1;
      same_x = ring1 ρ (At I A.x O B.x) (At I C.x O D.x) (neg I) (C.x :- A.x) O z.0 refl;
      same_y = ring1 ρ (At I A.y O B.y) (At I C.y O D.y) (neg I) (C.y :- A.y) O z.1 refl;
    }

-- otherwise p = (c - a) . (b - a) and r = (b - a) . (b - a)
at_part : {a b c d : Point} → turn_of a b c ≡ pos 0 → Dot c a b ≤ℤ pos 0 → Positive (Dot a b b) → Shared a b c d
at_part {a} {b} {c} {d} t h k =
    let ρ = env4 a b c d in
    record {
      p = Dot a c b;
      q = pos 0;
      r = Dot a b b;
      r_above = k;
      p_from = by_ring ρ Nonneg (O :- DotE C A B :+ DotE A C C) (DotE A C B) refl
          (nonneg_add (le_sub h) (dot_nonneg a c));
      p_to = sub_le (by_ring ρ Nonneg (O :- DotE C A B :+ DotE C B B) (DotE A B B :- DotE A C B) refl
          (nonneg_add (le_sub h) (dot_nonneg c b)));
      q_from = nonneg_pos 0;
      q_to = <ℤ_le k;
      same_x = ring1 ρ (At (DotE A B B) A.x (DotE A C B) B.x) (At (DotE A B B) C.x O D.x)
          (B.y :- A.y) (TurnE A B C) O t refl;
      same_y = ring1 ρ (At (DotE A B B) A.y (DotE A C B) B.y) (At (DotE A B B) C.y O D.y)
          (neg (B.x :- A.x)) (TurnE A B C) O t refl;
    }

pub on_line : {a b c d : Point} → turn_of a b c ≡ pos 0 → Dot c a b ≤ℤ pos 0 → Shared a b c d
on_line {a} {b} {c} {d} t h = go (≤ℤ_total (Dot a b b) (pos 0))
  where
    go : (Dot a b b ≤ℤ pos 0) ⊎ (pos 0 <ℤ Dot a b b) → Shared a b c d
    go (inl k) = at_point h k
    go (inr k) = at_part t h k

-- two equal numbers that are not of one sign
both_zero : {s t : ℤ} → s ≡ t → ¬ OneSide s t → s ≡ pos 0
both_zero {s} {t} e n = ≤ℤ_antisym (low s≤t n) (subst Nonneg (sym e) (high s≤t n))
  where
    s≤t : s ≤ℤ t
    s≤t = subst (λ z. s ≤ℤ z) e (≤ℤ_refl s)

-- c and d turn equally far from ab
in_line : {a b c d : Point} → turn_of a b c ≡ turn_of a b d → Quick a b c d → Shared a b c d
in_line {a} {b} {c} {d} e k = go (k.flat e)
  where
    c0 : turn_of a b c ≡ pos 0
    c0 = both_zero e k.first

    ab : turn_of c d a ≡ turn_of c d b
    ab = ring1 (env4 a b c d) (TurnE C D A) (TurnE C D B) I (TurnE A B D) (TurnE A B C) (sym e) refl

    a0 : turn_of c d a ≡ pos 0
    a0 = both_zero ab k.second

    go : Touch a b c d → Shared a b c d
    go (inl (inl h)) = on_line c0 h
    go (inl (inr h)) = turned_second (on_line (sym e ∙ c0) h)
    go (inr (inl h)) = exchanged (on_line a0 h)
    go (inr (inr h)) = exchanged (turned_second (on_line (sym ab ∙ a0) h))

pub quick_sound : {a b c d : Point} → Quick a b c d → Shared a b c d
quick_sound {a} {b} {c} {d} k = go (≤ℤ_total (turn_of a b c) (turn_of a b d))
  where
    rising : turn_of a b c ≤ℤ turn_of a b d → (turn_of a b d ≤ℤ turn_of a b c) ⊎ (turn_of a b c <ℤ turn_of a b d) →
        Shared a b c d
    rising h (inl l) = in_line (≤ℤ_antisym h l) k
    rising h (inr l) = crossing l k.first k.second

    falling : turn_of a b d <ℤ turn_of a b c → turn_of c d a <ℤ turn_of c d b
    falling h =
        sub_lt (by_ring (env4 a b c d) Positive (TurnE A B C :- TurnE A B D) (TurnE C D B :- TurnE C D A) refl
        (lt_sub h))

    go : (turn_of a b c ≤ℤ turn_of a b d) ⊎ (turn_of a b d <ℤ turn_of a b c) → Shared a b c d
    go (inl h) = rising h (≤ℤ_total (turn_of a b d) (turn_of a b c))
    go (inr h) = exchanged (crossing (falling h) k.second k.first)
