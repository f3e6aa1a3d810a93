-- Rewriting dependents on change rows.
--     Rewritten   the rows rewritten, and that they are what the definition says
--     Kept        what rewriting keeps of every row
--     Judged      line 6 of a rewritten change
--     Answers     what each answer means
pub mod Rewritten
pub mod Kept
pub mod Judged
pub mod Answers
