-- What the program prints of a batch.
pub mod Responds
