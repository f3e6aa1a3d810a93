-- The tree of a memory.
--     Old       tree 0 of a batch, in the batch's own bytes
--     Same      22: it is the tree left before
--     Accepted  what lines 2 to 7 leave is what 22 asks
--     New       the new tree: the definition's, 13, and its bytes
pub mod Old
pub mod Same
pub mod Accepted
pub mod New
