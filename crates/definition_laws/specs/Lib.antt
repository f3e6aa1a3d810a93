-- Laws of document 01's definitions, each stated once for all later work.
--     Basics     lists
--     Answers    what is not refused
--     Measures   elements, text and depth of trees as a list
--     Spelling   kind words, measures and text in preorder spell the trees, and no others
--     Rows       which element each row of the table tells, and that it tells each
--     Kin        paths, parents, children and descents, as the table tells them
--     Moves      what survives of paths, whatever the splices
--     Right      what is known of the targets of calls that line 6 accepts
--     Intervals  the elements at or below siblings are those from the first one's number up to the element after the last one's subtree
--     Sorting    the sorted order is a stable permutation, also where places are sorted and not the elements
--     Searching  where an element is put in a sorted list, found by halves
--     Regions    the last region that contains a change is the one that popping finds
--     Staying    what stays where some are withdrawn: a part of it in its order, all of it where none is
--     Stages     what each stage from calls to performed changes keeps of every change
--     Accepted   what is known of a batch that lines 2 to 7 accept
--     Plans      what is known of its plan: changes, climb steps, notes
--     Running    what holds of the current trees and the present paths, whatever steps are performed
--     Held       notes and changed elements stand in the current trees, whatever steps are performed
--     Performed  the splices that a batch performs on tree 0 fit it, their numbers rise, and none inserts more than 41 subtrees
--     Limits     an accepted answer's sizes are within the limits, and its bytes as many as the sizes tell
pub mod Basics
pub mod Answers
pub mod Measures
pub mod Spelling
pub mod Rows
pub mod Kin
pub mod Moves
pub mod Right
pub mod Intervals
pub mod Sorting
pub mod Searching
pub mod Regions
pub mod Staying
pub mod Stages
pub mod Accepted
pub mod Plans
pub mod Running
pub mod Held
pub mod Performed
pub mod Limits
