-- Bookmarks over a series of edits (document 02, Note 14): the memory, the calls on it, and what a series does to its bookmarks.
-- To know what is said, read:
--     Memory    the memory, and what it is held to: 3, 4, 5, 20, 21 (`held`)
--     Follow    how a batch moves the bookmarks; 22 (`step`)
--     Lent      the memory as lent slices: how they are read and written, the calls (`started`, `followed`), 13, and a series of calls (`series`, `all_moves`)
--     Examples  batches, refusals and a series, by computation; the fixed case, where old places would move a bookmark wrongly
--     Series    THE THEOREMS: after an accepted call the memory passes its own checks (`left_lent`), also the starting one (`start_later`); the whole series moves each bookmark as all its
--               splices and root replacements in a row do, in order (`series_follows`); a dropped number never comes back (`never_back`)
--     Replaced  a replaced root drops all (`root_drops`)
-- The proof, each file resting on those above it:
--     Moves     moves in a row: paths of tree 0 stay there, and two rows one after the other are one (`survivors_append`)
--     Roots     a root gives way to a node only, so the new tree passes line 5 (`new_spelled`)
--     Passing   one batch: a bookmark is an old element (`bookmark_stands`), and what is left passes the memory's lines (`left_held`)
--     ReadBack  what is written to the slices is read from them
pub mod Memory
pub mod Follow
pub mod Lent
pub mod Examples
