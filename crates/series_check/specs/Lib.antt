-- What code knows of a lent memory while it judges it.
--     Slots    the slots from a number on, and what is read of each
--     Leading  whether the path of a slot finds an element, by the rows of the tree
--     Rows     the rows of the tree, from its bytes
--     Judged   the refusals in order, one after another
--     Passed   the number 0 is that of no refusal
pub mod Slots
pub mod Leading
pub mod Rows
pub mod Judged
pub mod Passed
