-- Splices done in any order, and the old tree rewritten in one go: demand 3, for any tree, any depth and any number of splices.
-- What only proves stands in proofs/; here are the words, and laws on lists.
-- To know what is promised, read these four, in this order (the last in proofs/):
--     Lists      what a function picks of a list, tests, a property of each element, a relation between any two, a sum
--     Tree       trees, paths, one splice done, what is measured of them
--     Splices    the words of demand 3, in the paper's order
--     Demand     demand 3, stated, and proved from what is below
-- Laws that others use too:
--     ListLaws   on truth values, options, numbers and lists
--     TreeLaws   (in proofs/) on trees, paths and one splice: where an adjusted path leads, where each element of the new tree comes from, how many there are
-- The proof, in proofs/, each file resting on those above it:
--     Left       of two splices in one parent, just one is left of the other; what the paper says of that
--     Numbers    one node: where a run starts after other splices, and the new numbers of the children (a child is a run of one)
--     Children   one node: its new children, and what one more splice, or a child that is changed, does to them
--     Parts      a list of splices, parted by the root's children
--     Paths      where the one go writes the element of an old path: which paths are dropped, what stands where the others lead
--     Step       THE KEY: one more splice done is one more splice in the one go, in the tree and in the paths
--     Order      the one go does not depend on the order of the list
--     Done       a list done one after the other
--     Names      where the walk wrote each element, told by the names that it carries
-- Besides, in proofs/:
--     Gaps       the one go said once more, gap by gap
--     Check      a test that says just whether splices are all apart
--     Target     where a target's path tells the place; a list performed by its targets
--     Examples   all orders of four splices, and what fails where splices are not apart, by computation
pub mod Lists
pub mod Tree
pub mod Splices
pub mod ListLaws
