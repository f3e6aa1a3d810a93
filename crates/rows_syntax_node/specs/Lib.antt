-- What the functions on rows promise.
--     Promises     the parts of each promise, by name
--     Rising       marks that rise
pub mod Promises
pub mod Rising
