-- the decimal digits of a number
mod Spelling
-- a line as it is read
mod Reading
