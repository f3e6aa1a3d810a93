-- What the functions on rows, notes and changed rows promise.
--     Promises     the parts of each promise, by name
pub mod Promises
