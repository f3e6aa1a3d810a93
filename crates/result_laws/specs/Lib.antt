-- Every number of an accepted answer is a word of 32 bits, so nothing is lost in its bytes.
--     Labels    kind words through splices
--     Worded    the answer of a batch of bytes
pub mod Decoded
