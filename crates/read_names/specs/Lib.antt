-- Lines 6, 16 and 7.
--     Called   line 6, call by call; 16, by the call words alone
--     Noted    line 7, of a note, by the number of elements alone
pub mod Called
pub mod Noted
