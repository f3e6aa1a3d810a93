-- The ways out and the turns of the loop, which the functions' proofs cite.
pub mod Turns
