-- ---- to be believed: 01's frames and lines
pub mod Frames
-- ---- what the public calls promise: `feed` and the functions that write a line, and that each promise leaves one
-- result
pub mod Promise
pub mod Answer
pub mod Unique
-- ---- the automaton that `feed` runs, and that over a whole input it gives 01's events, however the input is cut
pub mod Reader
pub mod Whole
pub mod Chunks
pub mod Takes
-- ---- laws on the way there
pub mod Reading
pub mod Bytes
mod Digits
mod Holds
mod Keeps
-- ---- the definition, computed
pub mod Examples
