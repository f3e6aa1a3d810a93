-- Changing   each answer of the functions on one change
pub mod Changing
