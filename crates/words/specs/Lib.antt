-- Laws that callers use: Bytes, of words in bytes; List, of such words as one value; Parts, of lists that are written over and spliced.
pub mod Bytes
pub mod List
pub mod Parts
