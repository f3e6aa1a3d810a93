-- Alike   work slices of the same lengths
pub mod Alike
