-- Turns   the laws of each answer
pub mod Turns
