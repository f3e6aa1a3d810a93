-- The checker's ways out.
pub mod Ways
