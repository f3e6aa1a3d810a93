-- The element table: eight words for each element of a batch.
--     View          what the words tell, as the definition's table
--     Wellformed    what a batch that is accepted guarantees of the words
--     Told          what the view says of an element, word by word
--     Next          what the next element tells, where there is one and it may stand
--     Filling       the table and the rows, as one walk of the elements writes them
--     FillingLaws   the walk writes the words that the trees have
--     ViewLaws      those words tell the definition's table
--     Sound         and are well formed
--     Afters        word 6 is the element after the subtree, as the trees have it
--     SourceRows    the rows are those of the trees
--     Filled        the theorems for a batch
--     Held          what the elements as one value tell
pub mod View
pub mod Wellformed
pub mod Told
pub mod Next
pub mod Filling
pub mod FillingLaws
pub mod ViewLaws
pub mod Sound
pub mod Afters
pub mod SourceRows
pub mod Filled
pub mod Held
