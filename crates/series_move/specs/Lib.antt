-- Where bookmarks go.
--     Standing  the path of a bookmark now, from the marks of the elements on its way
--     Found     its element, and what its mark tells
--     Paths     that path written, child number by child number
--     Moved     its words in a slot
--     Kept      one bookmark of the slots after a run: written to a slot, or dropped
--     Packing   all of them: the survivors in their order, packed to the front
--     Ready     an accepted batch on a lent memory has what is asked, and what is written is what the definition leaves
--     Examples  lent bookmarks moved, by computation
pub mod Standing
pub mod Found
pub mod Paths
pub mod Moved
pub mod Kept
pub mod Packing
pub mod Ready
pub mod Examples
