-- What is known at each answer and each turn.
pub mod Turns
