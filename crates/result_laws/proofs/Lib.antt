pub mod Encoded
pub mod Labels
pub mod Worded
