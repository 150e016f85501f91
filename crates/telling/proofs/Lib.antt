-- what is told of the cells, as bytes
mod Tellings
-- what is written piece after piece
mod Writes
-- the lines of a piece one after another
mod Lines
-- the corners of a piece, tested
mod Corners
-- a search from the top of a range down
mod Down
-- the pieces in a buffer one after another
mod Passes
