-- Stored     the store that words tell
-- Gaps       where a change goes, by its numbers
-- Placed     marks are rows, as a fact that a value carries
-- Promises   what the functions promise
pub mod Stored
pub mod Gaps
pub mod Placed
pub mod Promises
