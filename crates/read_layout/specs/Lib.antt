-- Lines 2 to 4.
--     Layout  the sizes, and where each array of a batch stands
--     Held    the arrays of a batch as one value
pub mod Layout
pub mod Held
