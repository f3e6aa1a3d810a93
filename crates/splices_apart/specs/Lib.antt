-- What the functions that tell splices apart promise.
pub mod Promises
