-- The load of a starting number, written.
--     Lists   the lists that each stage hands on
--     Loads   THE PROMISE, and by which numbers it is refused: 1 and 15, never 14
pub mod Lists
pub mod Loads
