-- The writer's laws.
--     Arrays      arrays of words, one after another: read where they are written, written where they are read
--     CallWords   operations and counts in call words, and out of them
--     RoundTrip   "What it writes is read as the same lists", and "byte for byte after reading and writing"
pub mod Arrays
pub mod CallWords
pub mod RoundTrip
