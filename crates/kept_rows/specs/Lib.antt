-- The surviving elements of tree 0 as pairs, from marks (document 02, Note 11).
--     Pairs      what the code reads off the marks, and that these are the definition's pairs
--     Promises   the parts of each promise, by name
--     Examples   the pairs of some marks, by computation
pub mod Pairs
pub mod Promises
pub mod Examples
