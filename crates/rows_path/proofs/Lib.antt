-- The invariant of the loop, and a turn of it.
mod Turns
pub mod Offset
pub mod Promises
pub mod Examples
