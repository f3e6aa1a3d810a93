-- What a later call of a series answers from what its run leaves.
--     Telling  the outcome, the result slice and the memory, where this is the answer
--     Ends     at the end of the run: 13, or what is written
pub mod Telling
pub mod Ends
