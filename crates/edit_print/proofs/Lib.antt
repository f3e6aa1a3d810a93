-- The laws of the loops, which the functions' proofs cite.
pub mod Turns
