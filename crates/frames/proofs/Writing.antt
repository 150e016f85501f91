-- Laws of digits that are stored one after the other.
use Rattle.std.proofs.Common.{append_assoc, ◌≡◌, ℕ, suc, ◌+◌, ◌*◌, ◌<◌, ◌≤◌, List, [], ◌∷◌, ◌++◌, length, get_or, take, set, sym, refl, ◌∙◌, add-zero, add-one, arith, length-append, length-take-le, take-suc}
use lib.Seq.{sets, sets-eq, drop-drop}
use borrow.Rule.Slice.PartMut.{put_mid}
use Rattle.std.proofs.Common.{◌/◌, ◌%◌, ap, take_all, append-nil, drop}
use Rattle.std.proofs.Math.ListN.{drop_of_length-le}
use Rattle.std.proofs.Math.Seq.{length-sets}
use Rattle.frames.specs.Frames.{line_feed, digit_of, digits_of, line_of}
use Rattle.frames.specs.Answer.{Written}

-- ---- digits
digits_append : (xs ys : List ℕ) → digits_of (xs ++ ys) ≡ digits_of xs ++ digits_of ys
digits_append [] ys = refl
digits_append (x ∷ xs) ys = rw (digits_append xs ys)

length_digits : (xs : List ℕ) → length (digits_of xs) ≡ 2 * length xs
length_digits [] = refl
length_digits (x ∷ xs) = omega (arith, length_digits xs)

-- ---- stores in a row
sets_append : (xs ys l : List ℕ) (i : ℕ) → sets l i (xs ++ ys) ≡ sets (sets l i xs) (i + length xs) ys
sets_append [] ys l i = rw (add-zero i)
sets_append (x ∷ xs) ys l i =
    let e : suc i + length xs ≡ i + suc (length xs) = omega arith in
    sets_append xs ys (set l i x) (suc i) ∙ rw e

pub put_more : (bytes out₀ : List ℕ) (i : ℕ) {out : List ℕ} {x y : ℕ} → i < length bytes →
    out ≡ sets out₀ 0 (digits_of (take i bytes)) →
    x ≡ digit_of (get_or bytes i 0 / 16) → y ≡ digit_of (get_or bytes i 0 % 16) →
    set (set out (2 * i) x) (2 * i + 1) y ≡ sets out₀ 0 (digits_of (take (i + 1) bytes))
put_more bytes out₀ i {out} {x} {y} h e p q =
    let place : 0 + length (digits_of (take i bytes)) ≡ 2 * i =
    omega (arith, length_digits (take i bytes), length-take-le i bytes (omega arith)) in
    let more = digits_append (take i bytes) (get_or bytes i 0 ∷ []) in
    rw (p, q, e, add-one (2 * i), add-one i, take-suc bytes i 0 h, more)
    (rw (← place) (sym (sets_append (digits_of (take i bytes)) (digits_of (get_or bytes i 0 ∷ [])) out₀ 0)))

pub put_whole : (bytes out₀ : List ℕ) (i : ℕ) {out : List ℕ} → length bytes ≤ i → length out₀ ≡ 2 * length bytes →
    out ≡ sets out₀ 0 (digits_of (take i bytes)) → out ≡ digits_of bytes
put_whole bytes out₀ i h size e =
    let none_left : length out₀ ≤ 0 + length (digits_of bytes) = omega (arith, length_digits bytes) in
    e ∙ rw (take_all i bytes h)
    (sets-eq (digits_of bytes) out₀ 0 (omega (arith, length_digits bytes))
    ∙ rw (drop_of_length-le out₀ none_left) (append-nil (digits_of bytes)))

part_laid : (out new : List ℕ) (at k : ℕ) → length new ≡ k → at + k ≤ length out →
    put_mid at k out new ≡ sets out at new
part_laid out new at k size h =
    let tail : drop (at + length new) out ≡ drop k (drop at out) = rw size (sym (drop-drop k at out)) in
    sym (sets-eq new out at (omega arith) ∙ append_assoc (take at out) new (drop (at + length new) out)
    ∙ ap (λ (l : List ℕ). take at out ++ (new ++ l)) tail)

-- ---- the lines
placed : (line out : List ℕ) (at : ℕ) {r : ℕ} {out' : List ℕ} → at + length line ≤ length out →
    r ≡ at + length line →
    out' ≡ sets out at line → Written line out at r out'
placed line out at h e q =
    record { placed = λ _. (e, q ∙ sets-eq line out at h); refused = λ k. absurd (omega arith) }

refused : (line out : List ℕ) (at : ℕ) → length out < at + length line → Written line out at at out
refused line out at h = record { placed = λ k. absurd (omega arith); refused = λ _. (refl, refl) }

length_line : (bs : List ℕ) → length (line_of bs) ≡ 1 + 2 * length bs
length_line bs = omega (arith, length-append (digits_of bs) (line_feed ∷ []), length_digits bs)

-- the digits of some bytes, those of some more, and a line feed
line_laid : (head rest out : List ℕ) (at : ℕ) {one two : List ℕ} {next end : ℕ} →
    one ≡ sets out at (digits_of head) → next ≡ at + 2 * length head →
    two ≡ sets one next (digits_of rest) → end ≡ next + 2 * length rest →
    set two end line_feed ≡ sets out at (line_of (head ++ rest))
line_laid head rest out at {one} {two} {next} {end} e₁ n₁ e₂ n₂ =
    let mid : at + length (digits_of head) ≡ next = omega (arith, length_digits head, n₁) in
    let stop : next + length (digits_of rest) ≡ end = omega (arith, length_digits rest, n₂) in
    sym (rw (digits_append head rest, append_assoc (digits_of head) (digits_of rest) (line_feed ∷ []))
    (sets_append (digits_of head) (digits_of rest ++ line_feed ∷ []) out at
    ∙ rw (← e₁, mid) (sets_append (digits_of rest) (line_feed ∷ []) one next ∙ rw (← e₂, stop))))

pub line_written : (head rest out : List ℕ) (at : ℕ) {one two : List ℕ} {next end j k : ℕ} →
    at + (1 + 2 * (length head + length rest)) ≤ length out →
    next ≡ at + 2 * length head → end ≡ next + 2 * length rest → j ≡ 2 * length head → k ≡ 2 * length rest →
    one ≡ digits_of head → two ≡ digits_of rest →
    Written (line_of (head ++ rest)) out at (end + 1) (set (put_mid next k (put_mid at j out one) two) end line_feed)
line_written head rest out at {one} {two} {next} {end} {j} {k} fits n₁ n₂ s₁ s₂ e₁ e₂ =
    let size = length_line (head ++ rest) in
    let sized₁ : length (digits_of head) ≡ j = omega (arith, length_digits head, s₁) in
    let sized₂ : length (digits_of rest) ≡ k = omega (arith, length_digits rest, s₂) in
    let p₁ : put_mid at j out one ≡ sets out at (digits_of head) =
    rw e₁ (part_laid out (digits_of head) at j sized₁ (omega arith)) in
    let same : length (put_mid at j out one) ≡ length out =
    ap length p₁ ∙ simp length-sets in
    let p₂ : put_mid next k (put_mid at j out one) two ≡ sets (put_mid at j out one) next (digits_of rest) =
    rw e₂ (part_laid (put_mid at j out one) (digits_of rest) next k sized₂ (omega arith)) in
    placed (line_of (head ++ rest)) out at (omega (arith, size, length-append head rest))
    (omega (arith, size, length-append head rest, n₁, n₂)) (line_laid head rest out at p₁ n₁ p₂ n₂)

pub line_refused : (head rest out : List ℕ) (at : ℕ) →
    length out < at + (1 + 2 * (length head + length rest)) → Written (line_of (head ++ rest)) out at at out
line_refused head rest out at h =
    refused (line_of (head ++ rest)) out at (omega (arith, length_line (head ++ rest), length-append head rest))
