-- What becomes of each change, on sorted rows. In reading order:
--     Fates        that it is what the definition says
--     Stacks       the stacks of regions in the rows' own words
pub mod Fates
pub mod Stacks
pub mod Steps
