-- What the program `check` prints.
pub mod Responds
