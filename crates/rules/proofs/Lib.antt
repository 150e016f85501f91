-- Theorems of specs/ that rest on a definition which a must-fail edit turns: there they would count as text that is
-- not readable, here they refuse the edit. Most stand in a file of the same name as their definitions and first laws.
-- what comes back, over such lines and a plan, and that no second result does
pub mod Result
-- trees: what stands on a line, a chain, a range; runs, weights, lengths
pub mod Trees
-- the order of runs is strict, and of two trees of one range one comes first
pub mod Order
-- the lines of that tree are the pairs of the set
pub mod Lines
-- any pairs, crossing ones too: the shape of what is told, and its bytes
pub mod AnyPairs
-- each region is told
pub mod Regions
-- the cuts of a tree as a set of pairs
pub mod Uses
-- valid cuttings are the allowed trees; of two different cuttings one comes first; the answer is one
pub mod Valid
-- one piece more than cuts; 2+k bytes a piece, at most 5n-10 in all, which triangles take
pub mod Count
-- plans that agree have the same answer and the same bytes
pub mod Agree
-- a table with the Bellman property gives the first of the lightest trees; no entry, no tree
pub mod Table
-- so it gives the answer, and where it has no entry no cutting is valid
pub mod Answer
-- for one centre: the cheapest road of seen corners, by its first step
pub mod Roads
-- the best piece over all centres makes such a table
pub mod Search
-- columns hold the cheapest roads
pub mod Ways
-- the best piece of each centre
pub mod Owns
-- the first of the best over the centres: the Bellman property
pub mod Picks
-- a traced set is the answer
pub mod Trace
-- and cuttings: valid ones stay valid, and need no more pieces
pub mod Renumber
-- centres, and the bytes of pieces with whatever stands in the centre's place
pub mod Lays
-- lists that have just what they should, each once, in order
pub mod Sorted
-- all allowed trees of a range, in the order of their runs: 3, 11 and 45 of 4, 5 and 6 corners
pub mod Listing
-- the first of the lightest of them
pub mod Pick
-- and so all cuttings of given corners, and the answer
pub mod Computed
