-- The share of text rewritten, from rows (document 02, Note 10).
--     Summed     what the code adds up, and that it is the definition's share
--     Promises   the parts of each promise, by name
pub mod Summed
pub mod Promises
