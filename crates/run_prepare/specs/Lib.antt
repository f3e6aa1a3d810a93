-- What the listed elements of a step yield, in words.
--     Parts        the words that bytes hold, the notes that words are, as parts of more
--     Yields       the notes that come in, the sizes of the parts, the answer
--     Promises     what the functions promise
--     Bounds       the sizes and the notes of what came in, and how large they are
--     Refusal      where too much comes in, the step is refused
--     Listed       the elements that a change lists, where they stand in the batch
pub mod Parts
pub mod Yields
pub mod Promises
pub mod Bounds
pub mod Refusal
pub mod Listed
