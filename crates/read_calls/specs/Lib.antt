-- The judgement of one call.
--     Fits        the two parts of line 6
--     Operations  the number of an operation
pub mod Fits
pub mod Operations
