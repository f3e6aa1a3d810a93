-- The words of a tree's elements, as one walk writes them.
--     Walk      the walk, and the promise of `read_tree`
--     Next      what the next element tells, where it may stand
--     WalkLaws  for elements that spell a tree it writes the words of the tree's rows
--     Spelled   whether the lists spell a tree, and what the words then tell
pub mod Walk
pub mod Next
pub mod WalkLaws
pub mod Spelled
