-- Told       what is told of an element
-- Pairs      two lists as one of pairs
-- Filling    the loop of `fill_mapping`
-- Climbing   the loop of `upmap_to_ancestor`
-- Placing    the loop of `place_below`
pub mod Told
pub mod Pairs
pub mod Filling
pub mod Climbing
pub mod Placing
