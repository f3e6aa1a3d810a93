pub mod Demand1
pub mod Demand3
pub mod Examples
pub mod WrongEditors
pub mod Written
pub mod Kept
