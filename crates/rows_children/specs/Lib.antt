-- The children of every row, told at once.
--     Tables   what the tables tell, and what a path leads to by them
--     Looks    (proofs) a look tells where a child stands, and what its number is
pub mod Tables
