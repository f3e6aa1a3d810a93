-- The loops, and each way out.
--     Turns     the arrays and the answer
--     Stages    from what the run leaves to the words that are written
pub mod Turns
pub mod Stages
