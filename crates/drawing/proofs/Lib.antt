-- signed numbers of the machine
pub mod Machine
-- which sides are neighbours
mod Sides
-- what the corners know, one after the other
mod Learning
-- a walk over a mask
mod Walking
-- ---- the table of sight as it fills
-- rows of noughts
mod Blank
-- how its steps add up
mod Growing
-- one pair's two cells
mod Pairs
-- the neighbours
mod Neighbours
-- lines of sight that begin with a side
mod Begun
-- a row, and all rows
mod Rows
-- third corners
mod Settling
