-- What the functions promise is told here and in finish_model (`find_row`).
--     OldStart     where the text of an old node starts: what resolving its path gives
--     Found        what looking for an element answers
pub mod OldStart
pub mod Found
