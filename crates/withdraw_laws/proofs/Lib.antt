pub mod Kept
pub mod Choice
pub mod Numbers
