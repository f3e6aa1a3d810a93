-- The writer, by stages.
--     Lent      the work slices as one value
--     Handing   a batch that is laid out: 14, then 15
pub mod Lent
pub mod Handing
