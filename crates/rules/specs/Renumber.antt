-- Renumbering by one corner, cuttings: cuttings go to cuttings and regions to regions, one to one. So there is a valid
-- cutting by the new numbers where there was one by the old, and the fewest pieces do not become more; once round,
-- they are as few as before.
-- (The theorems that follow are in proofs/, under the same name.)
use Rattle.std.specs.Prelude.{◌≡◌, refl, false, ◌&&◌, ◌||◌, ◌↔◌, List, [], ◌∷◌, ℕ, zero, suc, ◌-◌, ◌≤◌, ◌<◌, T, eqb, ltb}
use Rattle.std.proofs.Common.{sym, subst, inl, inr, ⊎_elim, arith, ltb→lt, lt→ltb}
use Rattle.std.proofs.Math.Logic.Iff
use Rattle.std.specs.Float.Ieee.Fits.{and_i, and_l, and_r}
use Rattle.rules.specs.Lists.{In, Rising}
use Rattle.rules.specs.Cutting.{Pairs, Cross, Inner, Uncrossed, Joined, Near, Region, pieces}
use Rattle.rules.specs.Turn.{back, New, in_back, small_back, rising_back, length_back}
use Rattle.rules.specs.Turn.{near_low, near_high}

-- the set by the new numbers: the pairs of C with corner n-1, which is now 0, and the others
abbrev pub turn : ℕ → Pairs → Pairs
turn n C a zero = false
turn n C zero (suc y) = C y (n - 1)
turn n C (suc x) (suc y) = C x y && ltb (suc y) n

-- ---- cuttings to cuttings
pub turn_inner : (n : ℕ) (C : Pairs) → Uncrossed n C → (a b : ℕ) → T (turn n C a b) → Inner n a b
turn_inner n C un a zero c = absurd c
turn_inner n C un zero (suc y) c =
    let I = un.inner y (n - 1) c in
    record {
      rises = omega arith;
      small = omega arith;
      no_side = ⊎_elim (λ e. I.no_side (inr (omega arith, omega arith))) (λ e. I.no_side (inl (omega arith)));
    }
turn_inner n C un (suc x) (suc y) c =
    let I = un.inner x y (and_l (C x y) (ltb (suc y) n) c) in
    record {
      rises = omega arith;
      small = ltb→lt (suc y) n (and_r (C x y) (ltb (suc y) n) c);
      no_side = ⊎_elim (λ e. I.no_side (inl (omega arith))) (λ e. absurd (omega arith));
    }

pub turn_apart : (n : ℕ) (C : Pairs) → Uncrossed n C → (a b c d : ℕ) → T (turn n C a b) →
    T (turn n C c d) → ¬ Cross a b c d
turn_apart n C un a zero c d p q x = absurd p
turn_apart n C un a (suc b) c zero p q x = absurd q
turn_apart n C un zero (suc b) zero (suc d) p q x = ⊎_elim (λ e. omega arith) (λ e. omega arith) x
turn_apart n C un zero (suc b) (suc c) (suc d) p q x =
    let small = ltb→lt (suc d) n (and_r (C c d) (ltb (suc d) n) q) in
    let q' = and_l (C c d) (ltb (suc d) n) q in
    ⊎_elim (λ e. un.apart b (n - 1) c d p q' (inr (omega arith, omega arith, omega arith))) (λ e. omega arith) x
turn_apart n C un (suc a) (suc b) zero (suc d) p q x =
    let small = ltb→lt (suc b) n (and_r (C a b) (ltb (suc b) n) p) in
    let p' = and_l (C a b) (ltb (suc b) n) p in
    ⊎_elim (λ e. omega arith) (λ e. un.apart a b d (n - 1) p' q (inl (omega arith, omega arith, omega arith))) x
turn_apart n C un (suc a) (suc b) (suc c) (suc d) p q x =
    un.apart a b c d (and_l (C a b) (ltb (suc b) n) p) (and_l (C c d) (ltb (suc d) n) q)
    (⊎_elim (λ e. inl (omega arith, omega arith, omega arith)) (λ e. inr (omega arith, omega arith, omega arith)) x)

-- ---- regions to regions
joined_low : (n : ℕ) (C : Pairs) (x y : ℕ) → suc y < n → Joined n (turn n C) (suc x) (suc y) ↔ Joined n C x y
joined_low n C x y lt = (to, from)
  where
    to : Joined n (turn n C) (suc x) (suc y) → Joined n C x y
    to (inl (inl e)) = inl (inl (omega arith))
    to (inl (inr e)) = absurd (omega arith)
    to (inr c) = inr (and_l (C x y) (ltb (suc y) n) c)

    from : Joined n C x y → Joined n (turn n C) (suc x) (suc y)
    from (inl (inl e)) = inl (inl (omega arith))
    from (inl (inr e)) = absurd (omega arith)
    from (inr c) = inr (and_i (C x y) (ltb (suc y) n) c (lt→ltb (suc y) n lt))

joined_high : (n : ℕ) (C : Pairs) (x y : ℕ) → suc y ≡ n → Joined n (turn n C) 0 (suc x) ↔ Joined n C x y
joined_high n C x y last = (to, from)
  where
    e : n - 1 ≡ y
    e = omega arith

    to : Joined n (turn n C) 0 (suc x) → Joined n C x y
    to (inl (inl s)) = inl (inr (omega arith, last))
    to (inl (inr s)) = inl (inl (omega arith))
    to (inr c) = inr (subst (λ z. T (C x z)) e c)

    from : Joined n C x y → Joined n (turn n C) 0 (suc x)
    from (inl (inl s)) = inl (inr (refl, omega arith))
    from (inl (inr s)) = inl (inl (omega arith))
    from (inr c) = inr (subst (λ z. T (C x z)) (sym e) c)

pub region_back : (n : ℕ) (C : Pairs) (S : List ℕ) → Region n (turn n C) S → Region n C (back n S)
region_back n C S R = record {
  rising = rising_back n S R.rising R.small;
  small = small_back n S R.rising R.small;
  three = omega (arith, length_back n S R.rising R.small, R.three);
  lines = λ x y i k lt. line x y lt (in_back n S R.rising R.small x i) (in_back n S R.rising R.small y k);
}
  where
    line : (x y : ℕ) → x < y → New n x S → New n y S → Near (back n S) x y ↔ Joined n C x y
    line x y lt (inl p) (inl q) = absurd (omega arith)
    line x y lt (inl p) (inr q) = absurd (omega arith)
    line x y lt (inr p) (inl q) =
        let new = R.lines 0 (suc x) q.1 p.1 (omega arith) in
        Iff.trans (near_high n S R.rising R.small x y lt q.0) (Iff.trans new (joined_high n C x y q.0))
    line x y lt (inr p) (inr q) =
        let new = R.lines (suc x) (suc y) p.1 q.1 (omega arith) in
        Iff.trans (near_low n S R.rising R.small x y q.0) (Iff.trans new (joined_low n C x y q.0))

-- ---- valid cuttings to valid cuttings, where the pairs that may be cuts and the lists that may be pieces go with the
-- numbers
pub record Carried (n : ℕ) (cut cut' : ℕ → ℕ → Type 0) (ok ok' : List ℕ → Type 0) : Type 0 where
  pub others : (a b : ℕ) → a < b → suc b < n → cut a b → cut' (suc a) (suc b)
  pub last : (a b : ℕ) → a < b → suc b ≡ n → cut a b → cut' 0 (suc a)
  pub lists : (S : List ℕ) → Rising S → ((x : ℕ) → In x S → x < n) → ok (back n S) → ok' S

-- ---- tried: a hexagon cut along 0-2 and 2-5, which become 1-3 and 0-3
hexagon : Pairs
hexagon a b = (eqb a 0 && eqb b 2) || (eqb a 2 && eqb b 5)

hexagon_turned : pieces 6 (turn 6 hexagon) ≡ (0 ∷ 3 ∷ 4 ∷ 5 ∷ []) ∷ (0 ∷ 1 ∷ 3 ∷ []) ∷ (1 ∷ 2 ∷ 3 ∷ []) ∷ []
unfolding pieces hexagon
hexagon_turned = refl

-- ---- once round: what never becomes more and comes back is the same all along
falls : (f : ℕ → ℕ) → ((k : ℕ) → f (suc k) ≤ f k) → (k : ℕ) → f (suc k) ≤ f 1
falls f down zero = omega arith
falls f down (suc k) = omega (arith, down (suc k), falls f down k)

pub once_round : (f : ℕ → ℕ) → ((k : ℕ) → f (suc k) ≤ f k) → (n : ℕ) → f (suc n) ≡ f 0 → f 1 ≡ f 0
once_round f down n e = omega (arith, down 0, falls f down n)
