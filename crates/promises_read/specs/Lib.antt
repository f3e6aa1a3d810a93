-- Corollaries of the public contracts. Each theorem speaks of every call that keeps its promise (`Edits`, `Finds` of promises/specs/Promises.antt, `Writes` of promises/specs/Writing.antt),
-- and needs nothing of the code that makes the call.
--     Refused    by which numbers each stage refuses
--     Answered   the answer in the result slice, where what is lent suffices: the definition's
--     Printing   what is printed of it
--     Examples   THE EXAMPLES of document 01, as the calls answer them
--     Demand1    DEMAND 1: what each lent slice holds then
--     Demand3    DEMAND 3: an accepted batch whose splices are apart is answered with the one-go tree
--     Kept       EDGE RULE 1: no own insertion is lost
--     Pairs      THE SURVIVING PAIRS: few, read in the result slice, and our own output with them accepted
--     Written    THE WRITER: what each lent slice holds then, that what is written is read as the same lists, and that what is read is written byte for byte
--     WrongEditors   the editors of the reviewer's checklist, each excluded by an example
pub mod Refused
pub mod Answered
pub mod Printing
pub mod Examples
pub mod Demand1
pub mod Demand3
pub mod Pairs
pub mod Written
pub mod WrongEditors
