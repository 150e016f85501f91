-- ---- to be believed: what the two public calls promise, in the terms of `outline`
pub mod Judgement
pub mod Sight
-- ---- what the private functions promise
pub mod Parts
pub mod Known
pub mod Table
pub mod Walk
-- ---- laws: how one segment meets another, a side from one corner, sight from the open sides, and what the digits of
-- masks tell of sides and of angles
pub mod Meeting
pub mod Away
pub mod Looking
pub mod Grazing
pub mod Codes
pub mod Digits
pub mod Faced
-- ---- the two answers, and that no second one keeps the promise
pub mod Judging
pub mod Seen
