-- Changed elements and notes of the new tree, picked and sorted in place, and how many there are.
--     Items      items in a slice, some copied, one put among those sorted, all that are picked sorted
--     Behind     sorting from the first item on, and what falls turned around
--     Keys       what changed elements and notes are sorted by
--     Turned     changed elements that fall by text start, turned around
--     Sorted     what the functions promise, in words
--     Halved     places told by a test: those that pass stand on the left
--     Counted    how many are picked, counted by the library
pub mod Items
pub mod Behind
pub mod Halved
pub mod Keys
pub mod Turned
pub mod Sorted
pub mod Counted
