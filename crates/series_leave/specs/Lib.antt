-- The memory that an accepted batch leaves.
pub mod Leaving
