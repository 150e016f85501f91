-- What areas and their sums stay within.
use Rattle.std.specs.Prelude.{ℕ}

-- twice the area of three points within the limits, and that times a coordinate
abbrev pub most_area : ℕ
most_area = 8000000000000

abbrev pub most_weighed : ℕ
most_weighed = 8000000000000000000
