-- Stages   the ways from stage to stage, and out
pub mod Stages
