-- ---- to be believed: a call's name, what must come back, and a call held to it
pub mod Names
pub mod Replies
pub mod Steps
pub mod Held
