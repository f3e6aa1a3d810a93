-- The program's ways out.
pub mod Ways
