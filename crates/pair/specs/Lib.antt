-- ---- to be believed: 01's table, lines 1 and 3 to 8
pub mod Pair
-- ---- what callers use: a pair that passes
pub mod Passing
