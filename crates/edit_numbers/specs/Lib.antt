-- The outcomes of the public calls as one number.
--     Bounded    the bytes of an answer, and the element that is found, are few
--     Negated    small numbers in an i64, with a minus and without
--     Told       an outcome as one number, read as it was meant
--     Returned   what the calls for C return, and what they promise
--     ReturnedBatch   the same of the writer for C
pub mod Bounded
pub mod Negated
pub mod Told
pub mod Returned
pub mod ReturnedBatch
