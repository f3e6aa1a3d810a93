-- The result from what the run leaves, as bytes in the lent buffer.
--     SortKeys  what changed elements and notes are sorted by: what resolving the path of each gives
--     InTree    the result, from the new tree, its changed elements and its notes in order
--     Weighed   how many bytes it has, told before anything is sorted
--     Answered  the answer, and what the buffer holds then
--     Arrays    the arrays written one behind another
--     Cut       notes and changed elements at the front of longer words
pub mod SortKeys
pub mod InTree
pub mod Weighed
pub mod Answered
pub mod Arrays
pub mod Cut
