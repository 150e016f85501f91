-- The starred outlines of 01, "Outlines to try", and 02's rectangle as one table over the statement of the answer: one
-- computed test of all rows, and a theorem that turns it into what each row says. 02, K3: "01's starred answers stay,
-- proved."
use Rattle.std.specs.Prelude.{◌≡◌, refl, ◌&&◌, ◌||◌, ℕ, ◌≤◌, T, eqb, ℤ, pos, negsuc, length, replicate}
use Rattle.std.proofs.Common.{inl, inr, arith}
use mathlib.Core.List.{List, [], ◌∷◌, ◌++◌, map, flat_map}
use Rattle.outline.specs.Tells.{failed}
use Rattle.outline.specs.Mirror.{area_tells}
use Rattle.outline.specs.Outlines.{S, D, E, Z, H, crossing, backwards, straight, crossing_not_simple}
use Rattle.limits.specs.Limits.{Roomy}
use Rattle.outline.specs.Drawing.{InRange, Simple}
use Rattle.pair.specs.Pair.{Alike, Anticlockwise, of_drawing}
use Rattle.rules.specs.Lists.{In}
use Rattle.rules.specs.Cutting.{Pairs, pieces}
use Rattle.rules.specs.Refusals.{Line, line, FirstFailed, Hold, passed}
use Rattle.rules.specs.Result.{Result}
use Rattle.desk.specs.Answer.{of_cutting, Answers}
use Rattle.demands.specs.Program.{cutting, Gives}
use Rattle.demands.specs.Checks.{every, every_passes}
use Rattle.demands.specs.Rows.{Case, given, refused, Row, case, sees, misses, centre_sees, centre_misses}
use Rattle.demands.specs.Rows.{row_test, Holds, row_holds}

-- ---- outlines that 01 does not draw; negsuc n is -(n+1)
-- (a,0) (b,0) (b,4) (a,4)
abbrev square : ℤ → ℤ → List ℤ
square a b = a ∷ pos 0 ∷ b ∷ pos 0 ∷ b ∷ pos 4 ∷ a ∷ pos 4 ∷ []

-- (0,4) (0,1) (1,0) (1,3) (4,1) (4,2) and (3,0) (2,1) (4,1) (4,2) (0,3) (0,2)
abbrev hidden_first : List ℤ
hidden_first = pos 0 ∷ pos 4 ∷ pos 0 ∷ pos 1 ∷ pos 1 ∷ pos 0 ∷ pos 1 ∷ pos 3 ∷ pos 4 ∷ pos 1 ∷ pos 4 ∷ pos 2 ∷ []

abbrev hidden_second : List ℤ
hidden_second = pos 3 ∷ pos 0 ∷ pos 2 ∷ pos 1 ∷ pos 4 ∷ pos 1 ∷ pos 4 ∷ pos 2 ∷ pos 0 ∷ pos 3 ∷ pos 0 ∷ pos 2 ∷ []

-- (0,0) (1,2) (2,0) (2,1) (2,3) (0,3) and (3,2) (3,3) (1,1) (1,2) (0,0) (3,1)
abbrev grazed_first : List ℤ
grazed_first = pos 0 ∷ pos 0 ∷ pos 1 ∷ pos 2 ∷ pos 2 ∷ pos 0 ∷ pos 2 ∷ pos 1 ∷ pos 2 ∷ pos 3 ∷ pos 0 ∷ pos 3 ∷ []

abbrev grazed_second : List ℤ
grazed_second = pos 3 ∷ pos 2 ∷ pos 3 ∷ pos 3 ∷ pos 1 ∷ pos 1 ∷ pos 1 ∷ pos 2 ∷ pos 0 ∷ pos 0 ∷ pos 3 ∷ pos 1 ∷ []

-- (0,0) (3,0) (1,2) (2,4) (0,2) (0,1) (1,1) and (0,1) (3,0) (5,4) (5,5) (3,2) (4,5) (1,3)
abbrev pub fewest_first : List ℤ
fewest_first =
    pos 0 ∷ pos 0 ∷ pos 3 ∷ pos 0 ∷ pos 1 ∷ pos 2 ∷ pos 2 ∷ pos 4 ∷ pos 0 ∷ pos 2 ∷ pos 0 ∷ pos 1 ∷ pos 1 ∷ pos 1 ∷ []

abbrev pub fewest_second : List ℤ
fewest_second =
    pos 0 ∷ pos 1 ∷ pos 3 ∷ pos 0 ∷ pos 5 ∷ pos 4 ∷ pos 5 ∷ pos 5 ∷ pos 3 ∷ pos 2 ∷ pos 4 ∷ pos 5 ∷ pos 1 ∷ pos 3 ∷ []

-- 02's rectangle: one piece of eight corners, centre 0
abbrev pub all_eight : List ℕ
all_eight = 8 ∷ 0 ∷ 0 ∷ 1 ∷ 2 ∷ 3 ∷ 4 ∷ 5 ∷ 6 ∷ 7 ∷ []

-- ---- the table
abbrev pub cases : List Case
cases =
    -- "S, S: 04 00 00 01 02 03. Room 10 is enough; room 9 gives 2."
    given S S 10 1 (4 ∷ 0 ∷ 0 ∷ 1 ∷ 2 ∷ 3 ∷ [])
    ∷ refused S S 9 2
    -- "D, E: 9. D, D: one piece, centre 0. E, E: one piece, centre 1."
    ∷ refused D E 10 9
    ∷ given D D 10 1 (4 ∷ 0 ∷ 0 ∷ 1 ∷ 2 ∷ 3 ∷ [])
    ∷ given E E 10 1 (4 ∷ 1 ∷ 0 ∷ 1 ∷ 2 ∷ 3 ∷ [])
    -- "Z, H: two pieces, 05 00 00 01 02 03 05, 03 03 03 04 05. H, Z: the same bytes."
    ∷ given Z H 20 2 (5 ∷ 0 ∷ 0 ∷ 1 ∷ 2 ∷ 3 ∷ 5 ∷ 3 ∷ 3 ∷ 3 ∷ 4 ∷ 5 ∷ [])
    ∷ given H Z 20 2 (5 ∷ 0 ∷ 0 ∷ 1 ∷ 2 ∷ 3 ∷ 5 ∷ 3 ∷ 3 ∷ 3 ∷ 4 ∷ 5 ∷ [])
    -- "(0,0) (4,4) (4,0) (0,4) with S: 4, and not 5. S backwards with S: 5."
    ∷ refused crossing S 10 4
    ∷ refused backwards S 10 5
    -- without a star: "S with it: 8"; H with itself, where all see all
    ∷ refused S backwards 10 8
    ∷ given H H 20 1 (6 ∷ 0 ∷ 0 ∷ 1 ∷ 2 ∷ 3 ∷ 4 ∷ 5 ∷ [])
    -- "(0,0) (1,0) (2,0) (3,0) (3,3) (2,3) (1,3) (0,3) with itself"; 02, K3: "That rectangle with itself is now one
    -- piece, centre 0."
    ∷ given straight straight 30 1 all_eight
    -- "A cut keeps the strict rule." In the first drawing 2-4 runs along corner 3; if it were a cut, two pieces would
    -- be given
    ∷ refused grazed_first grazed_second 20 9
    -- "n = 2 and n = 65: 1", whatever the room
    ∷ refused (pos 0 ∷ pos 0 ∷ pos 4 ∷ pos 0 ∷ []) (pos 0 ∷ pos 0 ∷ pos 4 ∷ pos 0 ∷ []) 0 1
    ∷ refused (replicate 130 (pos 0)) (replicate 130 (pos 0)) 0 1
    -- "(0,0) (2,0) (4,0): 4. A corner entered twice: 4."
    ∷ refused (pos 0 ∷ pos 0 ∷ pos 2 ∷ pos 0 ∷ pos 4 ∷ pos 0 ∷ [])
    (pos 0 ∷ pos 0 ∷ pos 2 ∷ pos 0 ∷ pos 4 ∷ pos 1 ∷ []) 5 4
    ∷ refused (pos 0 ∷ pos 0 ∷ pos 4 ∷ pos 0 ∷ pos 4 ∷ pos 0 ∷ pos 0 ∷ pos 4 ∷ []) S 10 4
    -- "Coordinate 1,000,000 may pass; 1,000,001 gives 3 or 6"; and so below zero
    ∷ given (square (negsuc 999999) (pos 1000000)) S 10 1 (4 ∷ 0 ∷ 0 ∷ 1 ∷ 2 ∷ 3 ∷ [])
    ∷ refused (square (negsuc 999999) (pos 1000001)) S 10 3
    ∷ refused (square (negsuc 1000000) (pos 1000000)) S 10 3
    ∷ refused S (square (negsuc 999999) (pos 1000001)) 10 6
    ∷ refused S (square (negsuc 1000000) (pos 1000000)) 10 6
    -- range before simplicity: a crossing outline that reaches the limit, and one that passes it
    ∷ refused (pos 0 ∷ pos 0 ∷ pos 1000000 ∷ pos 4 ∷ pos 4 ∷ pos 0 ∷ pos 0 ∷ pos 4 ∷ []) S 10 4
    ∷ refused (pos 0 ∷ pos 0 ∷ pos 1000001 ∷ pos 4 ∷ pos 4 ∷ pos 0 ∷ pos 0 ∷ pos 4 ∷ []) S 10 3
    -- a side that hides: if it hid nothing from cuts, or nothing from centres, a cutting would be given
    ∷ refused hidden_first hidden_second 20 9
    -- fewest before first: the cutting that comes first of all has three pieces (`Later`)
    ∷ given fewest_first fewest_second 25 2 (5 ∷ 6 ∷ 0 ∷ 1 ∷ 4 ∷ 5 ∷ 6 ∷ 4 ∷ 2 ∷ 1 ∷ 2 ∷ 3 ∷ 4 ∷ [])
    ∷ []

abbrev pub rows : List Row
rows =
    map case cases
    -- "In Z, 0 sees 3 and not 4; 1 does not see 3."
    ++ (sees Z 0 3 ∷ misses Z 0 4 ∷ misses Z 1 3 ∷ [])
    -- and so for a centre
    ++ (centre_sees Z 0 3 ∷ centre_misses Z 0 4 ∷ centre_misses Z 1 3 ∷ [])

pass : T (every row_test rows)
unfolding flat_map
pass = tt

pub outlines : (r : Row) → In r rows → Holds r
outlines r i = row_holds r (every_passes row_test rows pass r i)

-- ---- four of them by name, with every buffer of at least that room
pub s_with_s : (before : List ℕ) → 10 ≤ length before → Gives S S before (cutting 1 (4 ∷ 0 ∷ 0 ∷ 1 ∷ 2 ∷ 3 ∷ []))
s_with_s = outlines _ (inl refl)

pub z_with_h : (before : List ℕ) → 20 ≤ length before →
    Gives Z H before (cutting 2 (5 ∷ 0 ∷ 0 ∷ 1 ∷ 2 ∷ 3 ∷ 5 ∷ 3 ∷ 3 ∷ 3 ∷ 4 ∷ 5 ∷ []))
z_with_h = outlines _ (inr (inr (inr (inr (inr (inl refl))))))

pub h_with_h : (before : List ℕ) → 20 ≤ length before →
    Gives H H before (cutting 1 (6 ∷ 0 ∷ 0 ∷ 1 ∷ 2 ∷ 3 ∷ 4 ∷ 5 ∷ []))
h_with_h = outlines _ (inr (inr (inr (inr (inr (inr (inr (inr (inr (inr (inl refl)))))))))))

pub rectangle : (before : List ℕ) → 30 ≤ length before → Gives straight straight before (cutting 1 all_eight)
rectangle = outlines _ (inr (inr (inr (inr (inr (inr (inr (inr (inr (inr (inr (inl refl))))))))))))

-- ---- "first the piece of the range, then the ranges under its lines from left to right, each told in the same way":
-- depth first. Seven corners, cut along 0-2, 0-3 and 3-6: what stands under 0-3 is told to its end before what stands
-- under 3-6
pub heptagon : Pairs
heptagon a b = (eqb a 0 && eqb b 2) || ((eqb a 0 && eqb b 3) || (eqb a 3 && eqb b 6))

pub depth_first : pieces 7 heptagon ≡ (0 ∷ 3 ∷ 6 ∷ []) ∷ (0 ∷ 2 ∷ 3 ∷ []) ∷ (0 ∷ 1 ∷ 2 ∷ [])
    ∷ (3 ∷ 4 ∷ 5 ∷ 6 ∷ []) ∷ []
unfolding pieces heptagon
depth_first = refl

-- ---- "4, and not 5": the crossing square is not simple, and its doubled area is not above zero either; the first of
-- the two counts, with any buffer
pub crossing_area : ¬ Anticlockwise crossing
crossing_area = failed (area_tells crossing) tt

pub crossing_not_5 : (before : List ℕ) (r : Result) → r.number ≡ 5 → ¬ Answers crossing S before r
crossing_not_5 before r e a = crossing_not_simple earlier.0.1.1.1.0
  where
    first_four : List Line
    first_four =
        line 1 (Alike crossing S) ∷ line 2 (Roomy 4 (length before)) ∷ line 3 (InRange crossing)
        ∷ line 4 (Simple crossing) ∷ []

    others : List Line
    others = line 5 (Anticlockwise crossing) ∷ (of_drawing 6 7 8 S ++ of_cutting crossing S)

    earlier : Hold first_four × FirstFailed others r.number
    earlier = passed first_four others r.number (omega arith) a.numbered
