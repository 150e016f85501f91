-- Theorems of specs/ that rest on a definition which a must-fail edit turns: there they would count as text that is
-- not readable, here they refuse the edit. Most stand in a file of the same name as their definitions and first laws.
-- ---- what callers use: a judgement as a number, what passing lines tell
pub mod Passing
-- ---- no second number, and no second buffer
pub mod Unique
