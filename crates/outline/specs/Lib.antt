-- Drawings and sight: document 01, "A sound drawing" and "Sight", and a centre's sight, document 02, K3. No code and
-- no table of a program occurs here. Where a line below names a theorem, it may stand in the file of that name in
-- proofs/.

-- ---- to be believed: the documents' words as definitions
-- a drawing, simple and sound, and who sees whom in it
pub mod Drawing
-- a point in or on a drawing, and a centre's sight
pub mod InOrOn
-- and points of a square to try it on
pub mod Points
-- ---- tools
-- truth values that tell of a statement whether it holds
pub mod Tells
-- points, turns and segments spelled for the solver
pub mod Spell
-- the largest of finitely many
pub mod Topmost
-- ---- segments
-- what they share, turns and products
pub mod Segments
-- the quick test for a shared point; segments far apart; only a common end
pub mod Quick
pub mod FarApart
pub mod Ends
-- a point against a segment and an angle
pub mod Against
-- how far a side reaches that meets a segment
pub mod Extent
-- ---- drawings and 01's sight
-- the corners' numbers; the sides of a simple drawing; sight, side by side
pub mod Round
pub mod Sides
pub mod Seeing
pub mod OnSegment
-- no corner stands on a line of strict sight; no line without one has a part of another
pub mod Unbroken
pub mod TwoPoints
pub mod OneLine
-- the tests that antt computes, of points and of whole drawings, and what they say of 01's outlines
pub mod Tests
pub mod Mirror
pub mod Outlines
-- ---- in or on: the sides to a point's right
-- a side that passes to the right; an odd number of them; how truth values add up; signs as truth values
pub mod Passing
pub mod Odd
pub mod Xor
pub mod Signs
-- pairs of whole numbers on segments: in three forms, by how far along they stand, and as a test
pub mod Placed
pub mod Along
pub mod OnTest
-- a drawing as a closed function, and larger ones
pub mod Parity
pub mod Scale
-- one side and a segment: turns that balance heights, segments that meet, the rule where they do not
pub mod Balance
pub mod Meet
pub mod ParitySide
-- all sides round: a segment that meets no side keeps the parity, and one that a side runs through changes it
pub mod ParityRound
pub mod Through
-- ---- a centre's sight by a finite test
-- what is asked of every point, and the test
pub mod EveryPoint
-- a side that crosses a segment
pub mod Crossing
-- the test is enough: between two corners on the segment all points are alike
pub mod Means
pub mod Covers
pub mod Stretch
pub mod Between
pub mod TestEnough
-- it is needed: close to a crossing there is a point outside
pub mod LineBetween
pub mod Near
pub mod OneIsOut
pub mod SharedPoint
pub mod CrossingPoint
pub mod TestNeeded
-- the definitions read so, for a drawing's own corners
pub mod Reading
pub mod CornersApart
pub mod CentreTest
-- what needs no test; a corner on the segment
pub mod CentreSight
pub mod CentreParts
-- the test that antt computes, and what it says of 01's outlines
pub mod CentreMirror
pub mod CentreOutlines
-- ---- the inside lies left of every side
-- numbers with one sign, sums of truth values; directions from one point, points between the ends of a side
pub mod Compare
pub mod TruthSums
pub mod Directions
pub mod Inner
-- how the parity changes at one side, round the outline, and from beside a side onto it
pub mod SideChanges
pub mod AllChanges
pub mod Rising
pub mod InnerChanges
-- it is one value along a side; close to a corner; left of the two sides there; in each direction from there
pub mod Met
pub mod Value
pub mod Ray
pub mod AngleAt
pub mod NearCorner
pub mod CornerSides
pub mod CornerTells
-- and it is odd, because the area is above zero: row by row
pub mod Sums
pub mod RowStep
pub mod OneRow
pub mod CommonHeight
pub mod HalfHeight
pub mod RowParts
pub mod AreaByRows
-- ---- the two kinds of sight, told by one look along the segment and by the angles
-- what a look finds; a side across or a third corner bars strict sight; free of both, it is the two angles
pub mod Way
pub mod Barred
pub mod FreeSight
-- the corners of a drawing, half way between two of them, and the inside
pub mod AtCorner
pub mod HalfWay
pub mod LeftIn
-- strict sight brings a centre's, and where nothing stands between they are one
pub mod TwoKinds
-- what the angle leaves of a centre's sight: a line that begins with a side; a third corner parts it
pub mod Begins
pub mod Third
-- ---- lines across lines
-- a point of a segment, and what its parts share with another
pub mod Squeezed
pub mod Straight
-- the corners on one side of a line of strict sight are an outline of their own; those on the other side are outside
pub mod Past
pub mod Parted
pub mod Chord
pub mod Outlook
pub mod Leaving
-- so two lines whose corners take turns round the drawing meet: both of strict sight, or one of them a centre's
pub mod Across
