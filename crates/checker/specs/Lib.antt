-- ---- to be believed: 02's K4
pub mod Checks
-- ---- no second verdict fits the statement
pub mod Unique
-- ---- "Accept .. exactly when it is a valid cutting"
pub mod Valid
-- so every answer of the desk is accepted, in any order of its pieces
pub mod Answered
-- the pieces of a list as entries; pieces without fault; their lines and the cuts of a cutting
pub mod Entries
pub mod Faultless
pub mod Seen
-- ---- number 22: the pieces of a set of uncrossed pairs are nested, which a program tells from their lines
-- nested lists, and that they are the lists of pieces of a set of uncrossed pairs
pub mod Nested
-- the lines of a piece: its steps from corner to corner, and its closing line
pub mod Steps
-- the steps of the pieces that a tree tells are its lines, and on each line one of them closes
pub mod TreeSteps
-- a tree grows from a nested list, and tells every piece of it
pub mod NestedTree
pub mod TreeTells
-- lists of which no two members have the same image
pub mod Images
-- ---- the private functions' promises
pub mod Parts
