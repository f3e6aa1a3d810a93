-- For each loop its invariant; each answer, from the tests that led there.
--     Passing   a search that passes what it does not look for
--     Calling   line 6
--     Noting    line 7
pub mod Passing
pub mod Calling
pub mod Noting
