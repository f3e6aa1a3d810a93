-- Settling   the loop of `settle_notes`
pub mod Settling
