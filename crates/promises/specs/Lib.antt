-- The slices that the public calls are lent, and what the calls promise.
--     Slices     the lengths that work slices need, and slices of zeros
--     Lent       the work slices as one value
--     Keeping    the surviving old elements of an edit, as pairs
--     Promises   THE PROMISES of `edit`, `find_element`, `account`, `share` and `kept`
--     Writing    THE PROMISE of `write_batch`
--     Serving    the promise of `serve`, for every job, and what follows from it
pub mod Slices
pub mod Lent
pub mod Keeping
pub mod Promises
pub mod Writing
pub mod Serving
