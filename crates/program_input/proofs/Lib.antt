-- What the proofs use.
pub mod Reading
