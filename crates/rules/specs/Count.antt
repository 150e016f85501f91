-- How many pieces a cutting has, and how many bytes they take. 01: "there is one piece more than there are cuts";
-- "Each piece takes 2+k bytes"; "5n-10 is the most that any cutting of n corners takes".
-- (The theorems that follow are in proofs/, under the same name.)
use Rattle.std.specs.Prelude.{◌≡◌, refl, ◌&&◌, ◌↔◌, List, [], ◌∷◌, map, ℕ, suc, ◌*◌, ◌≤◌, ◌<◌, length, T, eqb}
use Rattle.std.proofs.Common.{ap, inl, inr, ⊎_elim, arith, length-append, eqb→eq, lt→ltb}
use Rattle.std.proofs.Math.Dec.{ltb, ltb→lt}
use Rattle.std.proofs.Math.Facts.{and_yes, yes_and}
use Rattle.rules.specs.Lists.{In, Distinct, Rise, rise_le, rise_from, rise_last}
use Rattle.rules.specs.Cutting.{Pairs, Cross, Inner, Uncrossed, Joined, Near, Region}
use Rattle.rules.specs.Cutting.{pieces, flat, last}
use Rattle.rules.specs.Regions.{last_of}

-- ---- one piece more than cuts: each cut closes a piece, and each piece but the first is closed by a cut
pub record OneMore (n : ℕ) (C : Pairs) : Type 0 where
  pub cuts : List (ℕ × ℕ)
  pub once : Distinct cuts
  pub every : (a b : ℕ) → In (a, b) cuts ↔ T (C a b)
  pub count : length (pieces n C) ≡ suc (length cuts)

module _ {A B : Type 0} (f : A → B) where
  pub in_map : (x : A) (l : List A) → In x l → In (f x) (map f l)
  in_map x [] i = i
  in_map x (y ∷ l) (inl e) = inl (ap f e)
  in_map x (y ∷ l) (inr i) = inr (in_map x l i)

  pub map_in : (z : B) (l : List A) → In z (map f l) → (x : A) × In x l × (z ≡ f x)
  map_in z [] i = absurd i
  map_in z (y ∷ l) (inl e) = (y, inl refl, e)
  map_in z (y ∷ l) (inr i) = let p = map_in z l i in (p.0, inr p.1, p.2)

  pub distinct_map : (l : List A) → Distinct l → ((x y : A) → In x l → In y l → f x ≡ f y → x ≡ y) → Distinct (map f l)
  distinct_map [] d inj = tt
  distinct_map (x ∷ l) d inj = (other, distinct_map l d.1 (λ y z i k. inj y z (inr i) (inr k)))
    where
      other : In (f x) (map f l) → ⊥
      other i = let p = map_in (f x) l i in d.0 (rw (inj x p.0 (inl refl) (inr p.1) p.2) p.1)

-- the closing line of a piece
abbrev pub ends : List ℕ → ℕ × ℕ
ends [] = (0, 0)
ends (a ∷ s) = (a, last a s)

-- ---- the bytes
-- three for each triangle
pub flat_threes : (l : List (List ℕ)) → ((S : List ℕ) → In S l → length S ≡ 3) → length (flat l) ≡ 3 * length l
flat_threes [] f = omega arith
flat_threes (S ∷ l) f = omega (arith, length-append S (flat l), f S (inl refl), flat_threes l (λ S' i. f S' (inr i)))

-- ---- and there is one for each n: the fan of all lines from corner 0
unfoldable pub fan : ℕ → Pairs
fan n a b = eqb a 0 && (ltb 1 b && ltb (suc b) n)

module _ (n : ℕ) where
  fan_is : (a b : ℕ) → T (fan n a b) → (a ≡ 0) × (1 < b) × (suc b < n)
  unfolding fan
  fan_is a b h =
      let p = and_yes (eqb a 0) (ltb 1 b && ltb (suc b) n) h in
      let q = and_yes (ltb 1 b) (ltb (suc b) n) p.1 in
      (eqb→eq a 0 p.0, ltb→lt 1 b q.0, ltb→lt (suc b) n q.1)

  is_fan : (b : ℕ) → 1 < b → suc b < n → T (fan n 0 b)
  unfolding fan
  is_fan b l m = yes_and (ltb 1 b) (ltb (suc b) n) (lt→ltb 1 b l) (lt→ltb (suc b) n m)

  pub fan_uncrossed : Uncrossed n (fan n)
  fan_uncrossed = record { inner = inner; apart = apart }
    where
      inner : (a b : ℕ) → T (fan n a b) → Inner n a b
      inner a b h =
          let p = fan_is a b h in
          record {
            rises = omega arith;
            small = omega arith;
            no_side = ⊎_elim (λ e. omega arith) (λ e. omega (arith, e.1));
          }

      apart : (a b c d : ℕ) → T (fan n a b) → T (fan n c d) → Cross a b c d → ⊥
      apart a b c d h k =
          let p = fan_is a b h in
          let q = fan_is c d k in
          ⊎_elim (λ l. omega (arith, l.0)) (λ l. omega (arith, l.0))

  -- a region of the fan has corner 0, for its closing line begins there; and of its others only two, for each one
  -- between has its own line to 0
  pub fan_three : (S : List ℕ) → Region n (fan n) S → length S ≡ 3
  fan_three [] R = absurd (omega (arith, R.three))
  fan_three (a ∷ []) R = absurd (omega (arith, R.three))
  fan_three (a ∷ b ∷ []) R = absurd (omega (arith, R.three))
  fan_three (a ∷ b ∷ c ∷ []) R = refl
  fan_three (a ∷ b ∷ c ∷ d ∷ s) R =
      absurd (between ((R.lines a c (inl refl) (inr (inr (inl refl))) (omega (arith, lt))).1 (inr line)))
    where
      S : List ℕ
      S = a ∷ b ∷ c ∷ d ∷ s

      j : ℕ
      j = (last_of a (b ∷ c ∷ d ∷ s) R.rising).0

      ri : Rise a j (b ∷ c ∷ d ∷ s)
      ri = (last_of a (b ∷ c ∷ d ∷ s) R.rising).1

      lt : (a < b) × (b < c) × (c < d) × (d ≤ j) × (j < n)
      lt = (ri.0, ri.1.0, ri.1.1.0, rise_le d j s ri.1.1.1, R.small j (rise_last a j (b ∷ c ∷ d ∷ s) ri))

      begins : Joined n (fan n) a j → a ≡ 0
      begins (inl (inl e)) = absurd (omega (arith, lt))
      begins (inl (inr e)) = e.0
      begins (inr f) = (fan_is a j f).0

      zero_first : a ≡ 0
      zero_first =
          let i = rise_last a j (b ∷ c ∷ d ∷ s) ri in
          begins ((R.lines a j (inl refl) i (omega (arith, lt))).0 (inr (rise_from a j (b ∷ c ∷ d ∷ s) ri)))

      line : T (fan n a c)
      line = rw zero_first (is_fan c (omega (arith, lt)) (omega (arith, lt)))

      between : Near S a c → ⊥
      between (inl f) = f b (inr (inl refl)) lt.0 lt.1
      between (inr f) = omega (arith, lt.2, f d (inr (inr (inr (inl refl)))))
