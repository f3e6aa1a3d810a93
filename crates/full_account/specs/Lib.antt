-- A full account of the new tree (document 02, Note 13): reading only the changed elements suffices.
-- To know what is said, read:
--     Words     THE STATEMENT, of what a result holds (`Accounted`); counted (`sheet`), with a test (`full?`)
--     Examples  the sheets of batches by either edge rule, by computation
--     Needed    each half of the condition is needed (`root_needed`, `aside_needed`): a batch without it whose sheet fails the test
--     Holds     NOTE 13, of every batch by any choices (`accounted`, `sheet_full`); which half each sentence needs (`each_accounted`, `nowhere_accounted`)
--     Suffices  each element of the new tree that lies at or below no changed one is an old element as it was: its kind word, and a token's text (`rest_as_it_was`)
--     Answered  NOTE 13, of every call of `edit` that keeps its promise (`note_13_answered`): counted in the result slice, and what is said there of the rest
--     Shown     the table of Examples, of every such call (`table_shown`)
-- The proof:
--     Says      the test says just what the statement says (`full_says`)
pub mod Words
pub mod Examples
