-- The search: from two tables of sight to the first smallest cutting, as a set of pairs.

-- ---- to be believed
-- what `search` promises, over the definitions of `rules`
pub mod Answer
-- ---- and that nothing else fits
pub mod Unique
-- ---- the search's own: what its functions promise each other
-- the readings, the rows, the tables line by line
pub mod Rows
-- the set of pairs as it grows
pub mod Tracing
-- the same, of what the code's structs hold
pub mod Held
