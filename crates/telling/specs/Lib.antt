-- From a set of pairs to 01's bytes. The definitions cited are those of `rules`: `Cutting` (pieces, and the order in
-- which they are told), `Centre`, `Cells` (the set of pairs and who sees whom, as flat cells) and `Laid` (the bytes).

-- ---- to be believed
-- what `tell` promises
pub mod Answer
-- ---- nothing else fits
pub mod Unique
-- ---- how it is used after a search
-- what is served is told, and of the first smallest cutting that is 01's layout
pub mod First
-- ---- what the functions promise each other
-- what is written to a slice, a piece by its corners, and pieces one after another
pub mod Parts
