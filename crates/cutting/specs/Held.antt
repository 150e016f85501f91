-- What the search's functions promise each other, of the tables and the readings that the code's structs hold.
use Rattle.std.specs.Prelude.{Bool, List, ℕ}
use Rattle.cutting.specs.declared.reading.Readings.{Readings}
use Rattle.cutting.specs.declared.lines.Tables.{Tables}
use Rattle.cutting.specs.Rows.{Filled, Filling}
use Rattle.cutting.specs.Tracing.{Lanes, Tracing, Chosen, Solves, Drawn, Finds}

-- the tables have every line to a corner below j
abbrev pub FilledTo : Readings → Tables → ℕ → Type 0
FilledTo r t j = Filled r.cuts r.veil t.val t.left t.right r.n j

-- and in the column j those from i on
abbrev pub FillingFrom : Readings → Tables → List ℕ → ℕ → ℕ → Type 0
FillingFrom r t col i j = Filling r.cuts r.veil t.val t.left t.right col r.n i j

-- the lanes of the centres below x that fit are there
abbrev pub LanesTo : Readings → Tables → List ℕ → ℕ → ℕ → ℕ → Type 0
LanesTo r t col i j x = Lanes r.veil t.val t.left t.right col i j x

-- the centre x has the piece that is taken on the line i j, where that is in a set
abbrev pub ChosenBy : Readings → Tables → List ℕ → ℕ → ℕ → ℕ → Type 0
ChosenBy r t col i j x = Chosen r.cuts r.veil t.val t.left t.right r.n col i j x

-- the set so far
abbrev pub TracingAt : Readings → Tables → List ℕ → ℕ → ℕ → Type 0
TracingAt r t pairs i j = Tracing r.cuts r.veil t.val t.left t.right r.n pairs i j

-- finished tables of corners that have a cutting
abbrev pub SolvesBy : Readings → Tables → Type 0
SolvesBy r t = Solves r.cuts r.veil t.val t.left t.right r.n

-- the set is the first smallest cutting
abbrev pub DrawnBy : Readings → List ℕ → Type 0
DrawnBy r pairs = Drawn r.cuts r.veil r.n pairs

-- it is, or no set is valid and the array is as before
abbrev pub FindsBy : Readings → List ℕ → List ℕ → Bool → Type 0
FindsBy r before after b = Finds r.cuts r.veil r.n before after b
