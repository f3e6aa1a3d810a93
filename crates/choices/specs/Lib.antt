-- What the record of choices means.
--     Meant   the definition's choices, and by what they are refused
pub mod Meant
