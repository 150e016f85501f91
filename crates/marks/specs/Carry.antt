-- What comes back for a pair of drawings and a mark: document 02, K1, whole. This is what `carry` is proved against,
-- and what a reader has to believe, with the definitions of `desk` (what comes back for a pair), of `Wedges`, `Steps`
-- and `Lands`.
use Rattle.std.specs.Prelude as std
use Rattle.std.specs.Prelude.{Option, None, Ok, Err, ◌≡◌, List, [], ◌∷◌, ◌++◌, ℕ, ◌<◌, ℤ, pos, neg_ℤ, length, ◌≤ℤ◌}
use Rattle.limits.specs.Limits.{furthest}
use Rattle.outline.specs.Drawing.{Point, corners}
use Rattle.rules.specs.Cutting.{pieces}
use Rattle.rules.specs.Plan.{Plan}
use Rattle.rules.specs.Refusals.{Line, line}
use Rattle.rules.specs.Result.{Result, Given, ComesBack}
use Rattle.desk.specs.Answer as desk
use Rattle.desk.specs.Answer.{plan, asked}
use Rattle.marks.specs.Wedges.{Wedge, wedges}
use Rattle.marks.specs.Lands.{Lands}
use Rattle.marks.specs.declared.Carried.{Carried}
use Rattle.marks.specs.declared.Mark.{Mark}
use Rattle.marks.specs.declared.Place.{Place}
use Rattle.marks.specs.declared.Refusal.{Refusal}
use Rattle.marks.specs.declared.Refusal.TheVariants.{Pair, OutOfRange}

abbrev pub mark : ℤ → ℤ → Point
mark x y = record { x = x; y = y }

abbrev pub point_of : Mark → Point
point_of m = mark m.x m.y

-- 01: "Each coordinate is -1,000,000 to 1,000,000."
pub record MarkInRange (m : Point) : Type 0 where
  pub x_low : neg_ℤ (pos furthest) ≤ℤ m.x
  pub x_high : m.x ≤ℤ pos furthest
  pub y_low : neg_ℤ (pos furthest) ≤ℤ m.y
  pub y_high : m.y ≤ℤ pos furthest

-- "Refusals: those of 01, then 10 for a mark outside the coordinate range."
abbrev pub of_mark : Point → List Line
of_mark m = line 10 (MarkInRange m) ∷ []

abbrev pub asked_with_mark : List ℤ → List ℤ → Point → ℕ → List Line
asked_with_mark first second m room = asked first second room ++ of_mark m

-- the wedges of the cutting that is given
abbrev pub wedges_given : {p : Plan} {n : ℕ} {before : List ℕ} {r : Result} → Given p n before r → List Wedge
wedges_given {p} {n} {before} {r} g = wedges (pieces n g.cutting) g.carries.laid

pub record CarriesMark (first second : List ℤ) (m : Point) (before : List ℕ) (r : Result) (l : Option Place) :
    Type 0 where
  -- the number by 01's lines and one more; what a refusal brings, and the cutting that is given, as for the pair alone
  pub comes_back :
      ComesBack (asked_with_mark first second m (length before)) (plan first second) (corners first) before r
  -- a refusal has no place
  pub refused : 0 < r.number → l ≡ None
  -- the mark lands by the cutting's wedges
  pub lands : (e : r.number ≡ 0) → Lands first second m (wedges_given (comes_back.given e)) l

-- ---- the number for each refusal, and number, values and place for each case: what a call returns and the buffer
-- after it, as 01's result, and where the mark lands
abbrev pub number : Refusal → ℕ
number (Pair refusal) = desk.number refusal
number OutOfRange = 10

abbrev pub result_of : std.Result Carried Refusal → List ℕ → Result
result_of (Ok c) after = record { number = 0; count = c.pieces; bytes = c.bytes; after = after }
result_of (Err refusal) after = record { number = number refusal; count = 0; bytes = 0; after = after }

abbrev pub landing_of : std.Result Carried Refusal → Option Place
landing_of (Ok c) = c.landing
landing_of (Err _) = None
