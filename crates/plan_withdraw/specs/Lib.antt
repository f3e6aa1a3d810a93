-- Stronger rules first on change rows, and that it is what the definition says.
--     Rule   which rows are withdrawn, by their words and the table's
--     Told   it is what the definition says of the changes
pub mod Rule
pub mod Told
