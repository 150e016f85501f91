-- ---- to be believed: 01's output for a whole input
pub mod Terminal
-- ---- there is exactly one; number 2 does not occur in it, and its lines are not too long
pub mod Unique
pub mod Longest
-- ---- what the public calls promise, and that each promise leaves one result
pub mod Going
pub mod Running
pub mod Fixed
-- ---- the output of a whole input, however it is cut into chunks
pub mod Whole
-- ---- what the private functions promise
pub mod Laying
