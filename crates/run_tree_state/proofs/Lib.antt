-- Held       what a splice of all that is held asks for and makes, from its parts
-- Sizing     how large a step makes what is held
pub mod Held
pub mod Sizing
