-- Laws of the bytes of a line and of the form of a frame.
use Rattle.std.specs.Prelude.{◌≡◌, ℕ, zero, suc, ◌+◌, ◌*◌, ◌<◌, ◌≤◌, false, ◌&&◌, List, [], ◌∷◌, ◌++◌, length, ℤ, ◌==◌, ◌≢◌, nat_le, refl}
use Rattle.std.proofs.Common.{ap, arith, eq-eqb, ne_eqb, le-leb, length-append}
use Rattle.std.proofs.Math.Bool.{and-false}
use mathlib.Core.Option.{Option, none, some}
use Rattle.std.proofs.Math.Decide.{ℕ_discrete, dec_le}
use Rattle.std.proofs.lemmas.Bool.{lt-leb}
use Rattle.limits.specs.Limits.{most_corners}
use Rattle.frames.specs.Frames.{digit, join, bytes, number, numbers, framed, frame}
use Rattle.frames.specs.Reader.{worth}

-- ---- a digit, and what it is worth
-- a number that is not between two others
pub apart : (a c b : ℕ) → (a ≤ c → c ≤ b → ⊥) → (nat_le a c && nat_le c b) ≡ false
apart a c b h = go (dec_le a c) (dec_le c b)
  where
    go : Dec (a ≤ c) → Dec (c ≤ b) → (nat_le a c && nat_le c b) ≡ false
    go (yes p) (yes q) = absurd (h p q)
    go (yes p) (no q) = rw (lt-leb c b (omega arith), and-false)
    go (no p) q = rw (lt-leb a c (omega arith))

pub digit_worth : (c : ℕ) → worth c < 16 → digit c ≡ some (worth c)
unfolding worth
digit_worth c = go (digit c)
  where
    go : (o : Option ℕ) → mathlib.Core.Option.get_or o 16 < 16 → o ≡ some (mathlib.Core.Option.get_or o 16)
    go none h = absurd (omega arith)
    go (some d) h = refl

pub digit_none : (c : ℕ) → 16 ≤ worth c → digit c ≡ none
unfolding worth
digit_none c h = go (dec_le 48 c) (dec_le c 57) (dec_le 65 c) (dec_le c 70)
  where
    far : (48 ≤ c → c ≤ 57 → ⊥) → Dec (65 ≤ c) → Dec (c ≤ 70) → digit c ≡ none
    far n (yes p) (yes q) = absurd (omega (arith, simp (apart 48 c 57 n, le-leb 65 c p, le-leb c 70 q) at h))
    far n (yes p) (no q) = rw (apart 48 c 57 n, apart 65 c 70 (λ x y. q y))
    far n (no p) q = rw (apart 48 c 57 n, apart 65 c 70 (λ x y. p x))

    go : Dec (48 ≤ c) → Dec (c ≤ 57) → Dec (65 ≤ c) → Dec (c ≤ 70) → digit c ≡ none
    go (yes p) (yes q) s t = absurd (omega (arith, simp (le-leb 48 c p, le-leb c 57 q) at h))
    go (yes p) (no q) s t = far (λ x y. q y) s t
    go (no p) q s t = far (λ x y. p x) s t

-- ---- bytes
join_low : (h : Option ℕ) (m : Option (List ℕ)) → join h none m ≡ none
join_low none m = refl
join_low (some h) m = refl

join_more : (h l : Option ℕ) → join h l none ≡ none
join_more none l = refl
join_more (some h) none = refl
join_more (some h) (some l) = refl

-- a character that is no digit, anywhere
pub bytes_bad : (xs : List ℕ) (c : ℕ) (ys : List ℕ) → digit c ≡ none → bytes (xs ++ c ∷ ys) ≡ none
bytes_bad [] c [] e = refl
bytes_bad [] c (y ∷ ys) e = rw e
bytes_bad (x ∷ []) c ys e = rw e (join_low (digit x) (bytes ys))
bytes_bad (x ∷ y ∷ xs) c ys e = rw (bytes_bad xs c ys e) (join_more (digit x) (digit y))

-- bytes followed by what may be bytes
abbrev pub then : List ℕ → Option (List ℕ) → Option (List ℕ)
then p none = none
then p (some q) = some (p ++ q)

then_nothing : (o : Option (List ℕ)) → o ≡ then [] o
then_nothing none = refl
then_nothing (some q) = refl

join_then : (h l : ℕ) (q : List ℕ) (o : Option (List ℕ)) →
    join (some h) (some l) (then q o) ≡ then ((16 * h + l) ∷ q) o
join_then h l q none = refl
join_then h l q (some r) = refl

pub bytes_append : (xs ys : List ℕ) {p : List ℕ} → bytes xs ≡ some p → bytes (xs ++ ys) ≡ then p (bytes ys)
bytes_append [] ys {p} e = let k : [] ≡ p = cc in rw (← k) (then_nothing (bytes ys))
bytes_append (x ∷ []) ys e = cc
bytes_append (x ∷ y ∷ xs) ys {p} e = go (digit x) (digit y) (bytes xs) (λ q. bytes_append xs ys) e
  where
    go : (h l : Option ℕ) (m : Option (List ℕ)) → ((q : List ℕ) → m ≡ some q → bytes (xs ++ ys) ≡ then q (bytes ys)) →
        join h l m ≡ some p → join h l (bytes (xs ++ ys)) ≡ then p (bytes ys)
    go none l m more e = cc
    go (some h) none m more e = cc
    go (some h) (some l) none more e = cc
    go (some h) (some l) (some q) more e =
        let k : (16 * h + l) ∷ q ≡ p = cc in
        rw (more q refl, ← k) (join_then h l q (bytes ys))

pub bytes_length : (xs : List ℕ) {p : List ℕ} → bytes xs ≡ some p → length xs ≡ 2 * length p
bytes_length [] {p} e = let k : [] ≡ p = cc in rw (← k)
bytes_length (x ∷ []) e = cc
bytes_length (x ∷ y ∷ xs) {p} e = go (digit x) (digit y) (bytes xs) (λ q. bytes_length xs) e
  where
    go : (h l : Option ℕ) (m : Option (List ℕ)) → ((q : List ℕ) → m ≡ some q → length xs ≡ 2 * length q) →
        join h l m ≡ some p →
        suc (suc (length xs)) ≡ 2 * length p
    go none l m more e = cc
    go (some h) none m more e = cc
    go (some h) (some l) none more e = cc
    go (some h) (some l) (some q) more e = let k : (16 * h + l) ∷ q ≡ p = cc in rw (← k) (omega (arith, more q refl))

-- ---- numbers
pub numbers_append : (k : ℕ) (p q : List ℕ) → length p ≡ 3 * k → numbers (p ++ q) ≡ numbers p ++ numbers q
numbers_append k [] q e = refl
numbers_append k (a ∷ []) q e = absurd (omega arith)
numbers_append k (a ∷ b ∷ []) q e = absurd (omega arith)
numbers_append zero (a ∷ b ∷ c ∷ p) q e = absurd (omega arith)
numbers_append (suc k) (a ∷ b ∷ c ∷ p) q e = ap (λ (l : List ℤ). number a b c ∷ l) (numbers_append k p q (omega arith))

-- ---- the form of a frame
-- too short for the first two bytes
pub frame_short : (tag : ℕ) (line : List ℕ) → length line < 4 → frame tag line ≡ none
frame_short tag [] h = refl
frame_short tag (a ∷ []) h = refl
frame_short tag (a ∷ b ∷ []) h = one (digit a) (digit b)
  where
    one : (x y : Option ℕ) → framed tag (join x y (some [])) ≡ none
    one none y = refl
    one (some x) none = refl
    one (some x) (some y) = refl
frame_short tag (a ∷ b ∷ c ∷ []) h = rw (join_more (digit a) (digit b))
frame_short tag (a ∷ b ∷ c ∷ d ∷ line) h = absurd (omega arith)

-- a line that begins with two bytes and more
module _ (tag t n : ℕ) (whole body more : List ℕ) (read : bytes whole ≡ some (t ∷ n ∷ body)) where
  -- the two bytes are no frame's
  pub frame_head : (t ≡ tag → n ≤ most_corners → ⊥) → frame tag (whole ++ more) ≡ none
  frame_head h = rw (bytes_append whole more read) (go (bytes more))
    where
      test : (t == tag && nat_le n most_corners) ≡ false
      test = two (ℕ_discrete t tag) (dec_le n most_corners)
        where
          two : Dec (t ≡ tag) → Dec (n ≤ most_corners) → (t == tag && nat_le n most_corners) ≡ false
          two (yes p) (yes q) = absurd (h p q)
          two (yes p) (no q) = rw (lt-leb n most_corners (omega arith), and-false)
          two (no p) q = rw (ne_eqb t tag p)

      go : (o : Option (List ℕ)) → framed tag (then (t ∷ n ∷ body) o) ≡ none
      go none = refl
      go (some q) = rw test

  -- the line is not as long as they say
  pub frame_length : (length (whole ++ more) ≢ 4 + 12 * n) → frame tag (whole ++ more) ≡ none
  frame_length h = rw (bytes_append whole more read) (go (bytes more) refl)
    where
      go : (o : Option (List ℕ)) → bytes more ≡ o → framed tag (then (t ∷ n ∷ body) o) ≡ none
      go none e = refl
      go (some q) e =
          let other : length (body ++ q) ≡ 6 * n → ⊥ = λ k.
          h (omega
          (arith, k, length-append whole more, length-append body q, bytes_length whole read, bytes_length more e)) in
          rw (ne_eqb (length (body ++ q)) (6 * n) other, and-false)

-- a frame
pub frame_whole : (tag n : ℕ) (line body : List ℕ) → bytes line ≡ some (tag ∷ n ∷ body) → n ≤ most_corners →
    length body ≡ 6 * n →
    frame tag line ≡ some (numbers body)
frame_whole tag n line body read few long =
    rw (read, eq-eqb tag tag refl, le-leb n most_corners few, eq-eqb (length body) (6 * n) long)
