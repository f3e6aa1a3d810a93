pub mod Calls
pub mod Differ
pub mod Good
pub mod Note12
pub mod Trees
pub mod Uses
