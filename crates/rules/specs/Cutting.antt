-- Cuttings: document 01, "Cuttings", first and second paragraph, sentence by sentence. (Centres and the layout of the
-- bytes: `Centre`.) These are the definitions that a reader has to believe; the theorems of this crate are about them.
--
-- Three things are left open, and everything is stated for all of them:
--   cut a b   may the pair a < b be a cut         (01: its corners see each other in both drawings)
--   ok S      may the rising list S be a piece    (01: it has a centre)
--   w a b     what a piece on the closing line a b weighs   (01: each piece counts one)
use Rattle.std.specs.Prelude.{◌≡◌, refl, Bool, true, false, ◌&&◌, ◌||◌, ◌⊎◌, ◌↔◌, List, [], ◌∷◌, ◌++◌, ℕ, zero, suc, ◌+◌, ◌-◌, ◌≤◌, ◌<◌, T, eqb, ltb, length}
use Rattle.std.proofs.Common.{inl, inr, arith}
use Rattle.rules.specs.Lists.{In, Rising}

-- ---- sets of pairs
-- a set of pairs a, b of corners, a < b
abbrev pub Pairs : Type 0
Pairs = ℕ → ℕ → Bool

-- "Sides join i to i+1, and n-1 to 0": the pair a < b is a side
abbrev pub Side : ℕ → ℕ → ℕ → Type 0
Side n a b = (b ≡ suc a) ⊎ ((a ≡ 0) × (suc b ≡ n))

-- "Two cuts cross when their numbers a<b and c<d satisfy a<c<b<d or c<a<d<b."
abbrev pub Cross : ℕ → ℕ → ℕ → ℕ → Type 0
Cross a b c d = ((a < c) × (c < b) × (b < d)) ⊎ ((c < a) × (a < d) × (d < b))

-- a pair of n corners that is no side
pub record Inner (n a b : ℕ) : Type 0 where
  pub rises : a < b
  pub small : b < n
  pub no_side : ¬ Side n a b

-- a set of pairs, none a side, "no two of which cross"
pub record Uncrossed (n : ℕ) (C : Pairs) : Type 0 where
  pub inner : (a b : ℕ) → T (C a b) → Inner n a b
  pub apart : (a b c d : ℕ) → T (C a b) → T (C c d) → ¬ Cross a b c d

-- ---- "Its pieces are the regions left, each named by its corners in rising order"
-- No corner is set apart: round a region, neighbours are joined, by a side or by a pair of the set, and no other two
-- of its corners are.
abbrev pub Joined : ℕ → Pairs → ℕ → ℕ → Type 0
Joined n C x y = Side n x y ⊎ T (C x y)

-- none of S lies between x and y; none lies outside
abbrev pub Inside : List ℕ → ℕ → ℕ → Type 0
Inside S x y = (z : ℕ) → In z S → x < z → z < y → ⊥

abbrev pub Outside : List ℕ → ℕ → ℕ → Type 0
Outside S x y = (z : ℕ) → In z S → (x ≤ z) × (z ≤ y)

-- x < y of S are neighbours round S
abbrev pub Near : List ℕ → ℕ → ℕ → Type 0
Near S x y = Inside S x y ⊎ Outside S x y

pub record Region (n : ℕ) (C : Pairs) (S : List ℕ) : Type 0 where
  pub rising : Rising S
  pub small : (x : ℕ) → In x S → x < n
  pub three : 3 ≤ length S
  pub lines : (x y : ℕ) → In x S → In y S → x < y → Near S x y ↔ Joined n C x y

-- ---- "A cutting is valid when every piece has a centre": every pair may be a cut, every piece may be a piece
pub record Valid (cut : ℕ → ℕ → Type 0) (ok : List ℕ → Type 0) (n : ℕ) (C : Pairs) : Type 0 where
  pub uncrossed : Uncrossed n C
  pub cuts : (a b : ℕ) → T (C a b) → cut a b
  pub allowed : (S : List ℕ) → Region n C S → ok S

-- ---- "A range is told by its piece, and a piece by the ranges under its lines"
-- What stands on a line: a side (`leaf`), or a range, by the corners of its piece after the first: the next corner,
-- what stands under the line to it, and the rest. At the end of a piece `leaf` says that its last corner is reached.
pub data Tree : Type 0 where
  leaf : Tree
  link : ℕ → Tree → Tree → Tree

abbrev pub corners : Tree → List ℕ
corners leaf = []
corners (link b u r) = b ∷ corners r

-- "first the piece of the range": of the range from a with the tree t, in front of what is told under its lines; a
-- side has none
abbrev pub topped : ℕ → Tree → List (List ℕ) → List (List ℕ)
topped a leaf l = []
topped a (link b u r) l = (a ∷ b ∷ corners r) ∷ l

-- "then the ranges under its lines from left to right, each told in the same way"
abbrev pub below : ℕ → Tree → List (List ℕ)
below a leaf = []
below a (link b u r) = topped a u (below a u) ++ below b r

abbrev pub told : ℕ → Tree → List (List ℕ)
told a t = topped a t (below a t)

-- "A range i..j has one piece on its closing line ij. Under each other line of that piece stands a smaller range, or a
-- side." The furthest corner below top that a is joined to: a's next corner in the piece on a line from a to top.
abbrev pub furthest : Pairs → ℕ → ℕ → ℕ
furthest C a zero = suc a
furthest C a (suc t) = elim (C a t) [ true ↦ t | false ↦ furthest C a t ]

-- the piece from a on to its last corner j, where a's next corner is below top, with what stands under its lines; f
-- bounds the depth
abbrev pub chain : Pairs → ℕ → ℕ → ℕ → ℕ → Tree
chain C zero a top j = leaf
chain C (suc f) a top j =
    elim (ltb a j) [
      | true ↦ link (furthest C a top) (elim (ltb (suc a) (furthest C a top))
          [ true ↦ chain C f a (furthest C a top) (furthest C a top) | false ↦ leaf ])
          (chain C f (furthest C a top) (suc j) j)
      | false ↦ leaf
    ]

-- the range 0..n-1
abbrev pub tree : ℕ → Pairs → Tree
tree n C = chain C (n + n) 0 (n - 1) (n - 1)

-- the pieces of a cutting of n corners, in the order in which they are told
unfoldable pub pieces : ℕ → Pairs → List (List ℕ)
pieces n C = told 0 (tree n C)

-- "All corners told so, piece after piece, make one run of numbers."
abbrev pub flat : List (List ℕ) → List ℕ
flat [] = []
flat (S ∷ l) = S ++ flat l

abbrev pub run : ℕ → Pairs → List ℕ
run n C = flat (pieces n C)

-- ---- the order: "the one with the smaller number at the first difference comes first"
abbrev pub Less : List ℕ → List ℕ → Type 0
Less [] t = ⊥
Less (a ∷ s) [] = ⊥
Less (a ∷ s) (b ∷ t) = (a < b) ⊎ ((a ≡ b) × Less s t)

-- tried on 01's Z and H: the cut 3-5 is told 0 1 2 3 5, 3 4 5 and the cut 0-2, which comes later, 0 2 3 4 5, 0 1 2
z_h_order : Less (0 ∷ 1 ∷ 2 ∷ 3 ∷ 5 ∷ 3 ∷ 4 ∷ 5 ∷ []) (0 ∷ 2 ∷ 3 ∷ 4 ∷ 5 ∷ 0 ∷ 1 ∷ 2 ∷ [])
z_h_order = inr (refl, inl (omega arith))

-- ---- what a cutting weighs: each piece by its closing line, from its first corner to its last
abbrev pub last : ℕ → List ℕ → ℕ
last a [] = a
last a (b ∷ s) = last b s

-- (no piece is empty)
abbrev pub closing : (ℕ → ℕ → ℕ) → List ℕ → ℕ
closing w [] = w 0 0
closing w (a ∷ s) = w a (last a s)

abbrev pub weight : (ℕ → ℕ → ℕ) → List (List ℕ) → ℕ
weight w [] = 0
weight w (S ∷ l) = closing w S + weight w l

-- 01's own rule: each piece counts one, so that the weight is the count of pieces (`weight_one` of `Trees`)
abbrev pub one : ℕ → ℕ → ℕ
one a b = 1

-- ---- "Of two cuttings with equally few pieces, the one with the smaller number at the first difference comes first."
-- The answer: valid, of the least weight, and first among those.
pub record First (cut : ℕ → ℕ → Type 0) (ok : List ℕ → Type 0) (w : ℕ → ℕ → ℕ) (n : ℕ) (C : Pairs) : Type 0 where
  pub valid : Valid cut ok n C
  pub least : (D : Pairs) → Valid cut ok n D → weight w (pieces n C) ≤ weight w (pieces n D)
  pub first : (D : Pairs) → Valid cut ok n D → weight w (pieces n D) ≤ weight w (pieces n C) →
      (pieces n C ≡ pieces n D) ⊎ Less (run n C) (run n D)

-- ---- tried: a hexagon cut along 0-2 and 2-5
hexagon : Pairs
hexagon a b = (eqb a 0 && eqb b 2) || (eqb a 2 && eqb b 5)

hexagon_pieces : pieces 6 hexagon ≡ (0 ∷ 2 ∷ 5 ∷ []) ∷ (0 ∷ 1 ∷ 2 ∷ []) ∷ (2 ∷ 3 ∷ 4 ∷ 5 ∷ []) ∷ []
unfolding pieces hexagon
hexagon_pieces = refl

hexagon_weight : weight one (pieces 6 hexagon) ≡ 3
unfolding pieces hexagon
hexagon_weight = refl
