-- What the functions that judge a list of splices promise.
pub mod Promises
