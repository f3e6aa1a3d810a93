-- Ending   the answers of `upmap_ends`
-- Owning   a dependent and its owner, by the words of their rows
-- Writing  a row written at its place, and the row of a judged change
-- Rows     one row rewritten, and all of them
pub mod Ending
pub mod Owning
pub mod Writing
pub mod Rows
