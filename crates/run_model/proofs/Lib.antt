pub mod Sums
pub mod Gaps
pub mod Parts
pub mod Sizes
pub mod Spliced
pub mod Step
