-- Lines 2 to 7.
--     Accepting  lines 5 to 7, of a batch with a layout
--     Leaving    what an accepted batch leaves
pub mod Accepting
pub mod Leaving
