-- The run in words.
--     Running     what the run promises, and one step on
--     Standing    the batch and what is held now; with Opening and Stepping passed on from `run_step`
pub mod Running
pub mod Standing
pub mod Opening
pub mod Stepping
