-- Planning in code.
--     Counted   the discarded changes, counted on rows
--     Stages    what each stage leaves for the next
--     Answers   what the answer means
--     Left      what the promise says of the definition's plan
pub mod Counted
pub mod Stages
pub mod Answers
pub mod Left
