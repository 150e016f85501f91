-- The cutting theory: document 01, "Cuttings". No sight, no coordinate and no table of a program occurs in it: whether
-- a pair may be a cut, whether a list of corners may be a piece, and what a piece weighs are left open (`cut`, `ok`,
-- `w`), and so is who sees whom (`sees`). Where a line below names a theorem, it may stand in the file of that name in
-- proofs/.

-- ---- to be believed: 01's words as definitions
-- sets of pairs, crossing, regions, valid cuttings, the order in which pieces are told, the cutting that comes first
pub mod Cutting
-- centres, the one that is reported, the layout of the bytes
pub mod Centre
-- pairs of corners as flat cells: who sees whom, and a set of pairs
pub mod Cells
-- numbered lines and the number of the first that fails
pub mod Refusals
-- a plan: what may be a cut, what may be a piece, what a piece weighs, which corner stands in the centre's place; 01's
-- plan
pub mod Plan
-- what comes back, over such lines and a plan
pub mod Result
-- ---- tools
-- lists: members, each once, rising
pub mod Lists
-- trees: what stands on a line, a chain, a range; runs, weights, lengths
pub mod Trees
-- the order of runs is strict, and of two trees of one range one comes first
pub mod Order
-- ---- a cutting and its tree are the same thing
-- the tree of a set of pairs: it exists, and it is the only one
pub mod TreeOf
-- from corner to corner of a piece, as a program goes, and what is told of it
pub mod Walk
-- the lines of that tree are the pairs of the set
pub mod Lines
-- any pairs, crossing ones too: the shape of what is told, and its bytes
pub mod AnyPairs
-- each piece told is a region, and none is told twice
pub mod Pieces
-- each region is told
pub mod Regions
-- the cuts of a tree as a set of pairs
pub mod Uses
-- valid cuttings are the allowed trees; of two different cuttings one comes first; the answer is one
pub mod Valid
-- one piece more than cuts; 2+k bytes a piece, at most 5n-10 in all, which triangles take
pub mod Count
-- plans that agree have the same answer and the same bytes
pub mod Agree
-- and what comes back does not hang on what the buffer held
pub mod OtherBuffer
-- ---- how the first smallest cutting is found
-- the first of the cheapest, found in two steps
pub mod Cheapest
-- a table with the Bellman property gives the first of the lightest trees; no entry, no tree
pub mod Table
-- for one centre: the cheapest road of seen corners, by its first step
pub mod Roads
-- ---- such a table, filled column by column
-- the tables: columns of roads, the values of lines, finished tables
pub mod Columns
-- the piece that is taken of finished tables: no choice is stored
pub mod Choice
-- where a road goes on
pub mod Seek
-- and where that leads
pub mod Follow
-- no value is cut off
pub mod Small
-- columns as they grow
pub mod Grows
-- columns hold the cheapest roads
pub mod Ways
-- the best piece of each centre
pub mod Owns
-- the first of the best over the centres: the Bellman property
pub mod Picks
-- a lane filled again, and tables that agree where they are read
pub mod Again
-- no road comes before one that takes every corner
pub mod Unbeaten
-- ---- and the cutting of such a table, as a set of pairs
-- traced from the whole range down
pub mod Traced
-- a traced set is the answer
pub mod Trace
-- ---- renumbering
-- by one corner: lists of corners
pub mod Turn
-- and cuttings: valid ones stay valid, and need no more pieces
pub mod Renumber
-- ---- what antt computes of given corners
-- centres, and the bytes of pieces with whatever stands in the centre's place
pub mod Lays
-- lists that have just what they should, each once, in order
pub mod Sorted
-- all allowed trees of a range, in the order of their runs: 3, 11 and 45 of 4, 5 and 6 corners
pub mod Listing
-- and so all cuttings of given corners, and the answer
pub mod Computed
