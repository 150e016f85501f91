-- along the corners of a piece; neighbours round it; what the tests along it tell
pub mod Along
pub mod Neighbours
pub mod Tests
-- the pieces of a list one after another
pub mod Reading
-- 21; the passes for 22, and for 23 with 24
pub mod Listing
pub mod AtFault
pub mod Passes
-- from cells to drawings
pub mod Sights
-- tables that hold lines, and what they tell of 22
pub mod Tables
pub mod Marking
-- what is said in the end
pub mod Verdicts
pub mod Cuttings
