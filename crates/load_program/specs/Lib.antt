-- The load program.
--     Start      START, as an argument's bytes tell it
--     Responds   what stands at the front of the output
pub mod Start
pub mod Responds
