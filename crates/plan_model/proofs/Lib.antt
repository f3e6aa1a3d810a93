pub mod Fated
pub mod Noted
pub mod Outcome
