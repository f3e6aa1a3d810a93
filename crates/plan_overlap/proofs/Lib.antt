-- The invariants of the loops, and a turn of each.
pub mod Overlaps
