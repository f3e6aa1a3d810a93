-- Changed rows and notes in words, and what the functions on them promise.
--     Notes        notes in words
--     Changed      changed elements in words
--     Places       the rows at which parts come to stand
--     Promises     the parts of each promise, by name
pub mod Notes
pub mod Changed
pub mod Places
pub mod Promises
