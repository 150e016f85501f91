-- Theorems of specs/ that rest on a definition which a must-fail edit turns: there they would count as text that is
-- not readable, here they refuse the edit. Most stand in a file of the same name as their definitions and first laws.
-- a side that passes to the right; an odd number of them; how truth values add up; signs as truth values
pub mod Passing
-- the definitions read so, for a drawing's own corners
pub mod Reading
pub mod CentreTest
pub mod CentreParts
pub mod CentreMiddle
-- the test that antt computes, and what it says of 01's outlines
pub mod CentreMirror
pub mod CentreOutlines
pub mod HalfWay
-- strict sight brings a centre's, and where nothing stands between they are one
pub mod TwoKinds
-- what the angle leaves of a centre's sight: a line that begins with a side; a third corner parts it
pub mod Begins
pub mod Third
-- so two lines whose corners take turns round the drawing meet: both of strict sight, or one of them a centre's
pub mod Interleaved
pub mod Across
