pub mod Below
pub mod Counts
pub mod Overlap
pub mod Owners
pub mod Runs
pub mod Stacks
pub mod Account
pub mod Exactly
