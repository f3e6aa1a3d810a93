-- The loops' invariants, and each way out.
pub mod Turns
pub mod OldPath
