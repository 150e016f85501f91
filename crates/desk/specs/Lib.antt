-- ---- to be believed: 01, "What comes back"
pub mod Answer
-- ---- no second answer satisfies it
pub mod Unique
-- ---- the stages by themselves, for C: what each call promises, and that no second result fits
pub mod Stages
