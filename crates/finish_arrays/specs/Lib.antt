-- What the functions promise is told here, in finish_model, rows_model and the definition.
--     Starts      where the text of each row starts: what its path gives
--     Scanned     what one walk over a tree finds: its end, its text starts, the length of its text
--     Sweep       kinds and measures in one sweep, each element read once
--     Stretches   a stretch of text that is still to be copied, and text added to it
--     Encoding    the arrays written one behind another are the result as bytes
--     TextSizes   the length of the text of rows
--     NewTree     the words of tree 0
pub mod Starts
pub mod Scanned
pub mod Sweep
pub mod Stretches
pub mod Encoding
pub mod TextSizes
pub mod NewTree
