-- The order in which changes run.
--     Order        as places of rows, and that it is what the definition says
--     Counting     that no change runs twice
--     Sums         laws on sums
--     Links        the changes of each owner, linked
pub mod Order
pub mod Sums
pub mod Counting
pub mod Links
