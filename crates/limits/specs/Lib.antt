-- ---- to be believed: the numbers of 01 and what follows from them
pub mod Limits
