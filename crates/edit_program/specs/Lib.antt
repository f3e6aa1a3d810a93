-- What the program prints of an answer, and of a batch.
pub mod Told
pub mod Responds
