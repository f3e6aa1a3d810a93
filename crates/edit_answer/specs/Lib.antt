-- From what a run leaves to the answers.
pub mod Share
pub mod AtEnd
