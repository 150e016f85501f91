-- ---- to be believed: the words and numbers of a text, and what a buffer holds
pub mod Decimals
pub mod Lent
pub mod Counted
-- ---- digits as they are read
pub mod Digits
-- ---- a list that was read
pub mod Told
