pub mod Answered
pub mod Holds
pub mod Needed
pub mod Says
pub mod Shown
pub mod Suffices
