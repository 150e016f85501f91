-- Theorems about the answer that desk states: demands 1 and 2 in their own words and what that statement is worth,
-- and that the answer belongs to the shapes and not to how they were entered (demand 3). Nothing here is about a
-- program's code.

-- ---- to be believed, with desk's `Answers`: a program that meets it (two such programs give the same, so each
-- theorem below is one about all of them); a result by its bytes
pub mod Program
-- demand 3's own definitions: a number exchanged (`exchanged`), a whole-number rule (`Rule`) and a drawing moved by
-- it (`move`), a drawing renumbered (`turned_by`)
pub mod Entered
-- what a row of a table says (`Holds`); its test
pub mod Rows
-- ---- demands 1 and 2, sentence by sentence
pub mod Sentences
-- more room, or other bytes in the buffer: the same comes back
pub mod Room
-- ---- demand 2: what the statement is worth
-- the starred outlines of 01 and 02's rectangle, one table
pub mod Outlines
-- in its row Z, H: three cuts that are valid alone and come later
pub mod Later
-- two sound triangles: always 0
pub mod Triangles
-- worthless programs, which the statement finds out, by single calls and as programs
pub mod Worthless
-- 01's wire example, whole input to whole output; every input has an output
pub mod Wire
-- ---- demand 3: the answer belongs to the shapes
-- exchanging the drawings
pub mod Exchange
-- a whole-number rule on one of the drawings
pub mod WholeRule
-- renumbering both drawings from another shared corner
pub mod Renumbering
-- the three on given drawings, computed, and for each condition an instance without it that has another answer
pub mod Sanity
-- ---- tools: the table
-- laws of its numbered lines
pub mod Lines
-- its lines ask the same of two pairs of drawings and their plans agree: the same answer
pub mod SameAnswer
-- ---- tools: the answer, computed
-- tests of lists, and numbered tests in an order
pub mod Checks
-- the first smallest cutting
pub mod Smallest
-- the answer, and that it is the answer
pub mod Mirror
-- ---- tools: drawings that are moved or renumbered
-- what two drawings must have in common so that one is simple where the other is and corners see each other where
-- their partners do
pub mod Partners
-- a whole-number rule on points: shared points, turns, angles
pub mod MovedPoints
-- and on drawings: simplicity, doubled area, sight by the strict rule
pub mod Moved
-- and on what lies in or on an outline: a quarter turn, by where a point lies against a side
pub mod LeftOf
pub mod QuarterTurn
-- a rule that keeps heights in their order, and every rule
pub mod LevelRule
pub mod RuleKeepsIn
-- outlines with the same corners
pub mod SameOutline
-- a whole-number rule on a centre's sight
pub mod CentreMoved
-- renumbering a drawing by one corner
pub mod Turned
-- and a centre's sight then
pub mod CentreTurned
-- and by any number of corners; once round gives the drawing back
pub mod Renumbered
-- and both drawings: valid cuttings stay valid and have no more pieces
pub mod RenumberedCuttings
