pub mod Aims
pub mod Answered
pub mod Demand3
pub mod Step
pub mod Tree0
pub mod Examples
pub mod Run
