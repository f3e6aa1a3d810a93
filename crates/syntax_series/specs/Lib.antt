-- The calls on a series for C and Rust.
--     Returned   outcomes as one number, THE PROMISES, and by which numbers the calls refuse
pub mod Returned
