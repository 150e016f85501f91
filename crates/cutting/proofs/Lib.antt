-- ---- the fill
-- the two readings of the caller's cells
mod Readings
-- rows over the centres, and the least
mod Rows
-- the value of a line
mod Values
-- the tables, line by line
mod Fill
-- ---- the trace
-- a lane filled again
mod Relaid
-- loops over the corners of a piece and over centres
mod Corners
-- the set as it grows
mod Marking
-- each range that is met keeps the set traced
mod Traced
-- ---- the ends
-- finished tables, and the set that is traced from them
mod Finds
-- what is found is the answer
mod Answers
