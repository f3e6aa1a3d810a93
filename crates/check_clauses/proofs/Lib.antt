-- Turns    the loops: over a list, over pairs, over numbers
pub mod Turns
