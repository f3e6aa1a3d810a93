-- Lists laid out in a lent draft.
--     Appending   some bytes behind those that stand there
--     Laying      the lists that are lent, as the definition has them
pub mod Appending
pub mod Laying
