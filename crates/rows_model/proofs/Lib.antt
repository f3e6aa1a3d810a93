pub mod Depth
pub mod Examples
pub mod Marks
pub mod Moves
pub mod Numbers
pub mod PlaceLaws
pub mod RowLaws
pub mod Words
