-- where the blanks and the word end that a text begins with
mod Ends
-- what a word tells
mod Reading
-- a list that is read word by word
mod Filling
-- two buffers side by side
mod Agreeing
