-- How many trees begin from a row on, and what a look tells; the loops.
pub mod Looks
mod Turns
