-- What programs read and write.
--     Counts   a count that lies in a buffer
--     Told     what is written of an input whose bytes are known
--     Parts    words and parts read from an input whose bytes are known
pub mod Counts
pub mod Told
pub mod Parts
