-- The lists of a load, as the code fills them.
--     Numbered   call i, and what the generator holds before it
--     Filled     what the lists of calls hold then
--     Filling    one more of a list
--     Turns      what each loop has filled so far: at first, after a turn, at last
pub mod Numbered
pub mod Filled
pub mod Filling
pub mod Turns
