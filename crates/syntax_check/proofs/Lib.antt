-- What the proofs use.
mod Cases
pub mod Returned
