-- The row of a change.
--     Stated  the change that a row states, and its row with other ends
--     Exact   rows that are just the rows of the changes they state
pub mod Stated
pub mod Exact
