-- ---- to be believed: 02's K1
-- the wedges of an answer, in its order
pub mod Wedges
-- whole steps and the rest of a step
pub mod Steps
-- which wedge holds a mark, and where it lands by it; "on no piece" exactly when none does
pub mod Lands
-- what comes back, whole
pub mod Carry
-- and what C gets
pub mod Flat
-- ---- no second result fits the statement
pub mod Unique
-- ---- theorems about marks and wedges
-- a mark on the line between two wedges has the same place from either, where no wedge is flat
pub mod Between
pub mod NoFlat
pub mod Lines
-- a mark on a corner lands on that corner
pub mod OnCorner
-- the wedges of an answer: who sees whom, when they have an area, and which of their lines touch no corner
pub mod Joined
pub mod Follow
pub mod Seen
-- where no wedge of a piece is flat, no corner stands on a line from its centre
pub mod Star
pub mod Spokes
-- ---- laws
-- in or on three corners: by three crossings, by three weights, by areas that add up
pub mod Lies
pub mod Weighs
pub mod Areas
-- the quotient of two whole numbers as a float, and that a fraction is told in one way
pub mod Division
pub mod OneWay
-- ---- the private functions' promises, and the sizes in them
pub mod Sizes
pub mod Parts
