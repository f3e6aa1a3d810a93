-- Where the notes of a batch settle.
--     Notes     the settled notes by element number, the definition's notes told by them, and their words
--     Answers   what the answer means
pub mod Notes
pub mod Answers
