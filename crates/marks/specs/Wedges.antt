-- The wedges of an answer: document 02, K1, first sentences. To be believed.
use Rattle.std.specs.Prelude.{◌≡◌, refl, cond, ◌||◌, List, [], ◌∷◌, ◌++◌, ℕ, ◌+◌, eqb, length, get_or, drop}

-- "A wedge is a centre with two other corners that follow each other round its piece"
pub record Wedge : Type 0 where
  pub centre : ℕ
  pub from : ℕ
  pub to : ℕ

abbrev pub wedge : ℕ → ℕ → ℕ → Wedge
wedge c a b = record { centre = c; from = a; to = b }

-- "two other corners": a and b make a wedge, in front of others, where neither is the centre
abbrev pub with_wedge : ℕ → ℕ → ℕ → List Wedge → List Wedge
with_wedge c a b l = cond (eqb a c || eqb b c) l (wedge c a b ∷ l)

-- "that follow each other .. the last with the first at the end": after the last corner of a piece comes its first
-- corner, f
abbrev pub following : ℕ → List ℕ → ℕ
following f [] = f
following f (b ∷ s) = b

-- the wedges from some corner of a piece on
abbrev pub fan : ℕ → ℕ → List ℕ → List Wedge
fan c f [] = []
fan c f (a ∷ s) = with_wedge c a (following f s) (fan c f s)

-- the wedges of the piece S, in the order of its corners
abbrev pub piece_wedges : ℕ → List ℕ → List Wedge
piece_wedges c [] = []
piece_wedges c (f ∷ s) = fan c f (f ∷ s)

-- "taken as they stand in the answer", "in the answer's order": piece after piece; the centre is the one that the
-- bytes have for the piece (01: "k, the centre, the k corners")
abbrev pub wedges : List (List ℕ) → List ℕ → List Wedge
wedges [] bytes = []
wedges (S ∷ l) bytes = piece_wedges (get_or bytes 1 0) S ++ wedges l (drop (2 + length S) bytes)

-- ---- tried: a square with its centre first, a triangle with its centre in the middle, and two pieces
square_wedges : wedges ((0 ∷ 1 ∷ 2 ∷ 3 ∷ []) ∷ []) (4 ∷ 0 ∷ 0 ∷ 1 ∷ 2 ∷ 3 ∷ []) ≡ wedge 0 1 2 ∷ wedge 0 2 3 ∷ []
square_wedges = refl

middle_wedges : wedges ((3 ∷ 4 ∷ 5 ∷ []) ∷ []) (3 ∷ 4 ∷ 3 ∷ 4 ∷ 5 ∷ []) ≡ wedge 4 5 3 ∷ []
middle_wedges = refl

-- 01's Z and H: 05 00 00 01 02 03 05, 03 03 03 04 05
z_h_wedges :
    wedges ((0 ∷ 1 ∷ 2 ∷ 3 ∷ 5 ∷ []) ∷ (3 ∷ 4 ∷ 5 ∷ []) ∷ [])
    (5 ∷ 0 ∷ 0 ∷ 1 ∷ 2 ∷ 3 ∷ 5 ∷ 3 ∷ 3 ∷ 3 ∷ 4 ∷ 5 ∷ [])
    ≡ wedge 0 1 2 ∷ wedge 0 2 3 ∷ wedge 0 3 5 ∷ wedge 3 4 5 ∷ []
z_h_wedges = refl
