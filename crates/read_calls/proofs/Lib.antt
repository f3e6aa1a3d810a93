-- Judging   the laws of each answer of `first_listed`, `word_fits` and `call_fits`
-- Own       the elements that a call lists
pub mod Judging
pub mod Own
