-- ---- to be believed: which line is written for which line
pub mod Questions
-- ---- no second line fits
pub mod Unique
-- ---- the functions' promises
pub mod Parts
