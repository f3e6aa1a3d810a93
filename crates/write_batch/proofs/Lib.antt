-- Ways   the ways out of each function
pub mod Ways
