-- What is told of any set of pairs that joins no neighbours, whether its pairs cross or not: each piece is a rising
-- list of three corners or more, and all pieces together take 4 bytes a piece and n-2 more, at most 5n-10.
-- (Of uncrossed pairs the pieces are the regions: `Regions`.)
-- (The theorems that follow are in proofs/, under the same name.)
use Rattle.std.specs.Prelude.{◌≡◌, refl, ◌&&◌, ◌||◌, List, [], ◌∷◌, ℕ, ◌+◌, ◌*◌, ◌≤◌, ◌<◌, eqb, length}
use Rattle.std.proofs.Common.{inl, inr, length-append}
use native.Mathlib.Omega.{arith}
use Rattle.rules.specs.Lists.{In, Rising, Rise, rise_from, rise_rising}
use Rattle.rules.specs.Cutting.{Pairs, Tree, leaf, link, corners, pieces, flat}
use Rattle.rules.specs.Centre.{size}
use Rattle.rules.specs.Trees.{Range, chain_rise}

-- a list of corners below n that may be a piece of some cutting
pub record Shaped (n : ℕ) (S : List ℕ) : Type 0 where
  pub rising : Rising S
  pub small : (x : ℕ) → In x S → x < n
  pub three : 3 ≤ length S

-- any pair may be a cut here, and any list a piece
abbrev pub any_cut : ℕ → ℕ → Type 0
any_cut a b = Unit {0}

abbrev pub any_piece : List ℕ → Type 0
any_piece S = Unit {0}

pub range_shaped : (n i j : ℕ) (t : Tree) → j < n → Range any_cut any_piece i j t → Shaped n (i ∷ corners t)
range_shaped n i j leaf lt h = absurd h.0
range_shaped n i j (link c u r) lt h =
    let rise = chain_rise any_cut any_piece i j (link c u r) h.1 in
    record {
      rising = rise_rising i j (c ∷ corners r) rise;
      small = λ x k. omega (arith, rise_from i j (c ∷ corners r) rise x k);
      three = omega (arith, more c j (corners r) rise.1 h.0.0);
    }
  where
    more : (a j : ℕ) (s : List ℕ) → Rise a j s → a < j → 1 ≤ length s
    more a j [] h lt = absurd (omega arith)
    more a j (b ∷ s) h lt = omega arith

-- ---- the bytes by the numbers told, k for a piece; at least three for each piece
pub size_flat : (l : List (List ℕ)) → size l ≡ 2 * length l + length (flat l)
size_flat [] = refl
size_flat (S ∷ l) = omega (arith, size_flat l, length-append S (flat l))

pub flat_more : (l : List (List ℕ)) → ((S : List ℕ) → In S l → 3 ≤ length S) → 3 * length l ≤ length (flat l)
flat_more [] f = omega arith
flat_more (S ∷ l) f = omega (arith, length-append S (flat l), f S (inl refl), flat_more l (λ S' i. f S' (inr i)))

-- ---- tried: of two pairs that cross, 0-3 and 1-4 of a hexagon, the piece on the line 0 5 goes by the first, and the
-- second stands on no line
crossing : Pairs
crossing a b = (eqb a 0 && eqb b 3) || (eqb a 1 && eqb b 4)

crossing_pieces : pieces 6 crossing ≡ (0 ∷ 3 ∷ 4 ∷ 5 ∷ []) ∷ (0 ∷ 1 ∷ 2 ∷ 3 ∷ []) ∷ []
unfolding pieces crossing
crossing_pieces = refl
