-- What the functions of one splice of a list promise.
pub mod Promises
