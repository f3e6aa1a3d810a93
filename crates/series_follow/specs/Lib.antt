-- A later call of a series, from what is lent to the end of its run.
--     Accepting   2 to 7 with 16, and 22 after them
--     Performing  what comes before line 2; what is known at the end of the run
pub mod Accepting
pub mod Performing
