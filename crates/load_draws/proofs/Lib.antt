-- Ways   the ways out of each choice
pub mod Ways
