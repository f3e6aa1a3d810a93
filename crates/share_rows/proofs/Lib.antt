-- Ways   each answer, from what the code knows there
pub mod Ways
