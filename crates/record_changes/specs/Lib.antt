-- Recorded changes.
--     ChangeRow      a change as a row of words, with what planning needs beside it
--     ChangeRowLaws  rows in words: read, written, by place
--     Numbers        the code's changes: the paper's numbers of each case, and the definition's change
--     Spots          what planning needs of a change, from the words of the element table
pub mod ChangeRow
pub mod ChangeRowLaws
pub mod Numbers
pub mod Spots
