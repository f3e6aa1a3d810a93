-- The result told from what the run holds in rows, and the law that it is the definition's result.
--     Finished   tree 0 in rows; changed elements, notes and the result, from what is held
--     Numbers    the number of an element of the new tree, and where its text starts, by its row
--     Result     the result: the definition's
--     Alike      the first node with a kind and a text start, by the rows
--     Numbered   the number of an element of tree 0, as it is answered
pub mod Finished
pub mod Alike
pub mod Numbered
