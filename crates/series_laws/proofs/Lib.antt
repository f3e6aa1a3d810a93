pub mod Moves
pub mod Passing
pub mod ReadBack
pub mod Replaced
pub mod Roots
pub mod Series
