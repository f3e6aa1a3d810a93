-- A drawn call as the code holds it.
pub mod Called
