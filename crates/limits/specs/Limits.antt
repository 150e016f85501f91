-- The limits of document 01, and what follows from them. To be believed; `src/lib.rt` has the same for code.
use Rattle.std.specs.Prelude.{ℕ, ◌+◌, ◌*◌, ◌-◌, ◌≤◌}

-- ---- 01, "A sound drawing": "n is 3 to 64. Each coordinate is -1,000,000 to 1,000,000."
abbrev pub fewest_corners : ℕ
fewest_corners = 3

abbrev pub most_corners : ℕ
most_corners = 64

abbrev pub furthest : ℕ
furthest = 1000000

-- ---- a table of pairs of corners is flat, with a row for each corner that there may be, however many there are
abbrev pub row : ℕ
row = most_corners

abbrev pub all_cells : ℕ
all_cells = row * row

-- the cell of the corners i and j
abbrev pub place : ℕ → ℕ → ℕ
place i j = i * row + j

-- ---- the numbers of a drawing: an x and a y for each corner
abbrev pub most_numbers : ℕ
most_numbers = 2 * most_corners

-- ---- 01, "What comes back": number 2 is given where "the room is under 5n-10 bytes"
abbrev pub Roomy : ℕ → ℕ → Type 0
Roomy n room = 5 * n ≤ room + 10

-- 01, "The frames on the wire": "It gives each pair a room of 310 bytes", which is enough for the most corners
abbrev pub room : ℕ
room = 5 * most_corners - 10

-- two digits for A0, for the count of pieces and for each byte of the room, and the line feed
abbrev pub longest_line : ℕ
longest_line = 2 * (2 + room) + 1
