-- What the calls on a series promise.
--     Promises  THE PROMISES of `start` and `follow`
pub mod Promises
