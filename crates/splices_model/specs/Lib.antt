-- Demand 3 in words: a list of splices as words, the state of `orders` as rows and marks, and one step of the list.
--     Cuts      a splice as its words tell it; what the words hold of a tree, of its old elements' paths, of a list of splices
--     Reading   a splice as it is read
--     Places    the paths of a tree's elements, in preorder
--     Step      where a splice goes now, and what it leaves: the law's step
--     Orders    a list done one after the other: the law's state, for every apart list
--     Bounds    what keeps every step within the slices
--     Verdict   whether a list fits the old tree and is apart, told in rows
--     SpliceList  what a list of splices leaves, from the words that are lent: THE DEFINITION
--     Refusals  the number of a refusal, and what is answered as the definition has it
--     Found     what is judged is what the definition reads
--     Examples  the definition computed
pub mod Cuts
pub mod Reading
pub mod Places
pub mod Step
pub mod Orders
pub mod Bounds
pub mod Verdict
pub mod SpliceList
pub mod Found
pub mod Examples
pub mod Refusals
