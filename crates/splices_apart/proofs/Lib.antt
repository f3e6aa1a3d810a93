-- The library's tests of all splices are the definition's.
pub mod Turns
