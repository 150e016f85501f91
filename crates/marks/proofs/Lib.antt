-- points as `drawing` takes them
mod Points
-- quotient and remainder, rounded down, as whole steps and a rest
mod Rounding
-- weighted sums stay within their bounds
mod Sums
-- a wedge by its areas: whether it holds the mark, and where the mark lands by it
mod Wedges
-- the wedges of a piece, and the pieces of an answer, one after another
mod Fans
mod Finding
mod Answers
-- the number of a pair whose mark is out of range
mod Numbers
-- the three ways out of `carry`
mod Ways
