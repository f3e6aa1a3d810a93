-- Mapping elements into a replacement.
--     Answers    what each answer means
--     Settling   what the answers about a note's element mean
pub mod Answers
pub mod Settling
