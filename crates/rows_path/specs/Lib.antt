-- A path that knows its offset (Note 7).
--     Offset       where the text of an element starts in its tree, by its path
--     Promises     what resolving a path promises
--     Examples     the definitions compute
pub mod Offset
pub mod Promises
