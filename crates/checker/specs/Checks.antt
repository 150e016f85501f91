-- What is said of a cutting that was made elsewhere: document 02, K4, sentence by sentence. To be believed, with what
-- `pair` asks of two drawings, the two kinds of sight of `outline`, and pieces as `rules` has them.
use Rattle.std.specs.Prelude.{◌≡◌, ◌⊎◌, ◌↔◌, List, [], ◌∷◌, ◌++◌, map, ℕ, suc, ◌≤◌, ◌<◌, ℤ, length, Result, Ok, Err, ⊤}
use Rattle.outline.specs.Drawing as drawing
use Rattle.outline.specs.Drawing.{Sees}
use Rattle.outline.specs.InOrOn.{CentreSees}
use Rattle.pair.specs.Pair.{Checks, number as pair_number}
use Rattle.pair.specs.declared.Which.{Which}
use Rattle.pair.specs.declared.Which.TheVariants.{First, Second}
use Rattle.rules.specs.Lists.{In, Distinct, Rising}
use Rattle.rules.specs.Cutting.{Pairs, Uncrossed, Region, Near}
use Rattle.checker.specs.declared.Fault.{Fault}
use Rattle.checker.specs.declared.Fault.TheVariants as is
use Rattle.checker.specs.declared.flat.Verdict.{Verdict}

-- ---- 02's number for each case, with 23 and 24 the "place from 0" and the drawing; zeros where a case has none
abbrev pub which_number : Which → ℕ
which_number First = 1
which_number Second = 2

abbrev pub says : ℕ → Verdict
says k = record { number = k; drawing = 0; place = 0 }

abbrev pub says_at : ℕ → ℕ → Which → Verdict
says_at k place which = record { number = k; drawing = which_number which; place = place }

abbrev pub verdict : Result ⊤ Fault → Verdict
verdict (Ok _) = says 0
verdict (Err (is.Pair refusal)) = says (pair_number refusal)
verdict (Err is.NoList) = says 21
verdict (Err is.NoCutting) = says 22
verdict (Err (is.Unseen place which)) = says_at 23 place which
verdict (Err (is.Misses place which)) = says_at 24 place which

-- ---- "a list in 01's layout, pieces in any order and any allowed centre"
-- a piece of the list: its centre and its corners
pub record Entry : Type 0 where
  pub centre : ℕ
  pub corners : List ℕ

-- 01, "What comes back": "k, the centre, the k corners"
abbrev pub laid : List Entry → List ℕ
laid [] = []
laid (e ∷ l) = length e.corners ∷ e.centre ∷ (e.corners ++ laid l)

-- 21 is given for "k below 3 or above n, corners not rising or not below n, a centre that is none of them": what it
-- asks of each piece
pub record Allowed (n : ℕ) (e : Entry) : Type 0 where
  pub enough : 3 ≤ length e.corners
  pub few : length e.corners ≤ n
  pub rising : Rising e.corners
  pub below : (x : ℕ) → In x e.corners → x < n
  pub own : In e.centre e.corners

-- and for bytes that are "empty, cut short": what it asks of them all
pub record Listed (n : ℕ) (bytes : List ℕ) (l : List Entry) : Type 0 where
  pub some : ¬ (l ≡ [])
  pub are : bytes ≡ laid l
  pub each : (e : Entry) → In e l → Allowed n e

abbrev pub IsList : ℕ → List ℕ → Type 0
IsList n bytes = (l : List Entry) × Listed n bytes l

-- ---- "22 if the pieces are not those of one set of uncrossed pairs, each once": whatever their centres
pub record PiecesOf (n : ℕ) (C : Pairs) (L : List (List ℕ)) : Type 0 where
  pub uncrossed : Uncrossed n C
  pub once : Distinct L
  pub are : (S : List ℕ) → In S L ↔ Region n C S

abbrev pub corner_lists : List Entry → List (List ℕ)
corner_lists l = map (λ (e : Entry). e.corners) l

abbrev pub IsCutting : ℕ → List Entry → Type 0
IsCutting n l = (C : Pairs) × PiecesOf n C (corner_lists l)

-- ---- sight in one drawing, of both kinds: of two corners that see each other by the strict rule, and of a centre
-- (02, K3: "A cut keeps the strict rule.")
pub record Sight : Type 1 where
  pub strictly : ℕ → ℕ → Type 0
  pub as_centre : ℕ → ℕ → Type 0

abbrev pub sight_in : List ℤ → Sight
sight_in d = record { strictly = λ x y. Sees d x y × Sees d y x; as_centre = CentreSees d }

-- "23 for an unseen line": a line joins neighbours round the piece, the last with the first too
abbrev pub LinesSeen : Sight → List ℕ → Type 0
LinesSeen s S = (x y : ℕ) → In x S → In y S → x < y → Near S x y → s.strictly x y

-- "or else 24 for a centre": "a centre that misses a corner"
abbrev pub CentreSeesAll : Sight → Entry → Type 0
CentreSeesAll s e = (y : ℕ) → In y e.corners → s.as_centre e.centre y

-- ---- what is asked in turn, each with what is said where it fails; 0 where nothing does
pub record Asked : Type 1 where
  pub asks : Type 0
  pub else_says : Verdict

abbrev pub ask : Type 0 → Verdict → Asked
ask P v = record { asks = P; else_says = v }

abbrev pub FirstFailed : List Asked → Verdict → Type 0
FirstFailed [] v = v ≡ says 0
FirstFailed (q ∷ l) v = ((¬ q.asks) × (v ≡ q.else_says)) ⊎ (q.asks × FirstFailed l v)

module _ (first second : Sight) where
  -- "for the first piece at fault in the list, with its place from 0, 23 for an unseen line or else 24 for a centre";
  -- "Of several such lines or corners in the piece, the first drawing counts if any fails there."
  abbrev pub of_pieces : ℕ → List Entry → List Asked
  of_pieces place [] = []
  of_pieces place (e ∷ l) =
      ask (LinesSeen first e.corners) (says_at 23 place First)
      ∷ ask (LinesSeen second e.corners) (says_at 23 place Second)
      ∷ ask (CentreSeesAll first e) (says_at 24 place First)
      ∷ ask (CentreSeesAll second e) (says_at 24 place Second)
      ∷ of_pieces (suc place) l

  -- "22 .. and only then"
  abbrev pub of_list : ℕ → List Entry → List Asked
  of_list n l = ask (IsCutting n l) (says 22) ∷ of_pieces 0 l

  -- "then 21 for bytes that are no such list"
  abbrev pub OfBytes : ℕ → List ℕ → Verdict → Type 0
  OfBytes n bytes v =
      ((¬ IsList n bytes) × (v ≡ says 21)) ⊎ ((l : List Entry) × Listed n bytes l × FirstFailed (of_list n l) v)

-- ---- "Refusals: 1 and 3 to 8 of 01, then 21 ..": the number of the pair, and with 0 what its sight says of the bytes
pub record ChecksList (first second : List ℤ) (bytes : List ℕ) (v : Verdict) : Type 0 where
  pub number : ℕ
  pub of_pair : Checks first second number
  pub refused : ¬ (number ≡ 0) → v ≡ says number
  pub sound : number ≡ 0 → OfBytes (sight_in first) (sight_in second) (drawing.corners first) bytes v
