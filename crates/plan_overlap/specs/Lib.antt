-- Refusal 8 on change rows, and that it is what the definition says.
pub mod Overlap
